pub mod Formats
pub mod Frames
pub mod Opened
pub mod Texts
