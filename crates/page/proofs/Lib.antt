pub mod RegisterLaws
pub mod EntryLaws
pub mod Places
pub mod EntryWords
