pub mod Parts
pub mod Records
pub mod Gone
pub mod Effects
pub mod Stores
pub mod Printed
pub mod Sound
