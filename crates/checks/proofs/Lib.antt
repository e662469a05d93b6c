pub mod Truth
pub mod Codes
pub mod Judged
pub mod Accepted
