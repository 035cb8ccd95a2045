pub mod Fault
pub mod Begun
pub mod Linked
pub mod NumberingLaws
