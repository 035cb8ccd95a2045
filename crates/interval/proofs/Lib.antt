pub mod Playable
pub mod PartsLie
pub mod InTurn
