pub mod BitLaws
pub mod WordLaws
pub mod DirtyLaws
pub mod PageLaws
pub mod IndexLaws
pub mod Copies
pub mod Constants
