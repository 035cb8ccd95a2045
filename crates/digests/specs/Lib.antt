pub mod Fault
pub mod Media
pub mod Sums
