pub mod Fault
pub mod Format
pub mod Opened
pub mod Range
pub mod Started
