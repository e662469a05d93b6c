pub mod UsedLaws
pub mod EffectLaws
pub mod Lengths
pub mod Few
