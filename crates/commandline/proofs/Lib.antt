pub mod CommandLineLaws
pub mod Numerals
