pub mod Asked
pub mod Report
