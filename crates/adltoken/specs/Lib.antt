pub mod Fault
pub mod Spans
pub mod Views
