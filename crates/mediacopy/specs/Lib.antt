pub mod Copied
pub mod Fault
pub mod Moment
pub mod Pieces
