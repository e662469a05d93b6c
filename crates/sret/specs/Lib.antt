pub mod Context
pub mod Sret
