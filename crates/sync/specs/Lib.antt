pub mod Turns
pub mod Progress
pub mod Inner
