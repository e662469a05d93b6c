pub mod Width
pub mod Bits
pub mod Words
pub mod Geometry
pub mod Dirty
