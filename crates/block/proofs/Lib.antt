pub mod LaidOut
pub mod BlockLaws
pub mod Words
pub mod Widths
