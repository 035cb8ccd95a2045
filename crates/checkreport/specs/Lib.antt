pub mod Explained
pub mod Parts
pub mod Printed
pub mod PrintedLaws
pub mod Report
pub mod Reported
