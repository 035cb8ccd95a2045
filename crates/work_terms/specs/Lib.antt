pub mod Disk
pub mod Refusals
