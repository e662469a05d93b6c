pub mod Sync
pub mod Stops
pub mod Outcome
pub mod Inner
