pub mod Forms
pub mod Indexed
pub mod OneMore
pub mod Reading
pub mod Refused
pub mod Table
pub mod Walking
pub mod ZeroHeads
