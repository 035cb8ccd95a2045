pub mod BadTime
pub mod Times
pub mod Verdicts
