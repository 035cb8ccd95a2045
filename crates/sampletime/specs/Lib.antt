pub mod FrameRate
pub mod RateLaws
pub mod TimeCode
pub mod TimeLaws
pub mod TimeVectors
