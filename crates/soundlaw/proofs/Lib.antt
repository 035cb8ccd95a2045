pub mod Shares
pub mod Crossfade
pub mod Floors
pub mod Lanes
pub mod Parts
pub mod Nearest
