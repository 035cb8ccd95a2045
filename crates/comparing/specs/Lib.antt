pub mod CompareFault
pub mod Comparing
