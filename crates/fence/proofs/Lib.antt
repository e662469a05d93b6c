pub mod Cleared
pub mod Named
pub mod Removal
pub mod Several
pub mod Unreadable
pub mod Samples
