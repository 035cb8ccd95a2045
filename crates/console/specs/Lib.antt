pub mod Lines
pub mod Places
pub mod Printing
pub mod PrintingLaws
pub mod Vectors
