pub mod Fault
pub mod Holding
pub mod Known
pub mod Zero
