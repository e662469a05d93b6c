pub mod Format
pub mod Gathering
pub mod Kinds
