pub mod Bytes
pub mod ContextLaws
pub mod Whole
pub mod Widths
pub mod Order
pub mod Said
