pub mod AtHome
pub mod EntrySound
