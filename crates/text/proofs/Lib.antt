pub mod Writing
pub mod Puts
pub mod Lengths
pub mod Steps
