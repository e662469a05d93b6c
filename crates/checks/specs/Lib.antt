pub mod Fids
pub mod Codes
pub mod Checks
