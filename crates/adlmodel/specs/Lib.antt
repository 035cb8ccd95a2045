pub mod Header
pub mod Numbered
