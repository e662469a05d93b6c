pub mod Answers
pub mod Fences
pub mod Requests
