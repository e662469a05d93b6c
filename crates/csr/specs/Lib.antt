pub mod Csrs
pub mod Inner
