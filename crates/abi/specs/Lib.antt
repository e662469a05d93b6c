pub mod Answers
pub mod Crossings
pub mod Claims
pub mod Requests
