pub mod Codes
pub mod Crossed
pub mod Refusals
pub mod Stopped
pub mod Requested
