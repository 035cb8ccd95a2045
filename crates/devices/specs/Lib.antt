pub mod AppendLaws
pub mod Fault
pub mod Frame
pub mod ReadLaws
pub mod ViewLaws
pub mod Views
