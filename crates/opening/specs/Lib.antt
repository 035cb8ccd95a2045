pub mod Commands
pub mod Faults
pub mod Further
pub mod Own
pub mod Paths
