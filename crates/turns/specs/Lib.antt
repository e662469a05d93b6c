pub mod Marks
pub mod Turn
pub mod Steps
pub mod Reports
pub mod Clean
pub mod Blank
pub mod Stops
