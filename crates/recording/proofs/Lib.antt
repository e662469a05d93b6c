pub mod Good
pub mod Gathered
pub mod Numbers
