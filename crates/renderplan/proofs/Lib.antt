pub mod Reaching
pub mod Passing
pub mod Formed
pub mod Shares
pub mod Summing
pub mod ExactSums
