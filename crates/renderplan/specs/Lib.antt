pub mod Fault
pub mod Planned
pub mod Reaches
pub mod Sources
pub mod Spans
