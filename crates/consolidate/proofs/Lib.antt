mod Answered
pub mod RenderWorks
pub mod Stores
