pub mod Calls
pub mod Lines
pub mod Traps
pub mod Inner
