pub mod Channels
pub mod CommandLine
pub mod Globals
pub mod Request
pub mod RequestLaws
pub mod Vectors
