pub mod Forms
pub mod Reached
pub mod Restart
pub mod Sizes
pub mod After
pub mod Reports
pub mod Singly
