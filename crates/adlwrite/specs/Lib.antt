pub mod LeftText
pub mod Parts
