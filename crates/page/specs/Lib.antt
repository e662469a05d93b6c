pub mod Registers
pub mod Entries
