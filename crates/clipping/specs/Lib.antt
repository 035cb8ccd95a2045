pub mod Clips
pub mod Kept
pub mod Laws
