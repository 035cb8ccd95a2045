pub mod Fault
pub mod Parts
pub mod Reads
pub mod Report
