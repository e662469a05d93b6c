pub mod MemoryLaws
pub mod WorldLaws
pub mod StateLaws
