pub mod Events
pub mod Dropped
pub mod Inside
pub mod Claims
