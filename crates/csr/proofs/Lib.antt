pub mod Table
pub mod Turns
pub mod PlaceLaws
pub mod Constants
