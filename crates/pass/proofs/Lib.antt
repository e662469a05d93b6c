pub mod TestLaws
pub mod GatherLaws
pub mod SweepLaws
pub mod PassLaws
