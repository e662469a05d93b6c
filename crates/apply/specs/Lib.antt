pub mod Used
pub mod Effects
