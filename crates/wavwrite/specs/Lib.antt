pub mod Fault
pub mod Info
pub mod Vectors
