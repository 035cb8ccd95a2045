pub mod Fault
pub mod Runs
pub mod Spans
