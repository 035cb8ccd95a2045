pub mod Apart
pub mod Fault
pub mod Packed
