pub mod Chosen
pub mod Passing
pub mod Sizes
pub mod EntryLine
pub mod Whole
pub mod Samples
