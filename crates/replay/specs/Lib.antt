pub mod Lines
pub mod Replay
pub mod Code
pub mod Inner
