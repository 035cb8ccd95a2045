pub mod Answered
pub mod First
pub mod Frames
pub mod Knowing
pub mod Parts
pub mod Silent
