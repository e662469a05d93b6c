pub mod Entry
pub mod Slots
pub mod Names
pub mod Table
