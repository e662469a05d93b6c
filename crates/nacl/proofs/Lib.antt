pub mod CallLaws
pub mod Said
pub mod Blind
pub mod Few
pub mod Stopped
pub mod Outcomes
pub mod LineOutcomes
pub mod TrapOutcomes
