pub mod Fault
pub mod Files
pub mod Homes
pub mod Own
pub mod Places
pub mod Taken
