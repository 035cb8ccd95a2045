pub mod Channels
pub mod Fault
pub mod Form
pub mod Found
pub mod Ids
pub mod Sizes
pub mod Walk
