pub mod Inner
pub mod Pass
