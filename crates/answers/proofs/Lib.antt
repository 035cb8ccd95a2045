mod Rates
pub mod Tables
