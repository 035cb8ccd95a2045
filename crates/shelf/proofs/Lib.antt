pub mod Changed
pub mod Copied
pub mod Named
pub mod Padded
pub mod Replayed
