pub mod Both
pub mod Tests
pub mod Claims
