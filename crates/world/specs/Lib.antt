pub mod Memory
pub mod World
pub mod State
