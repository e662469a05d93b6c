pub mod AllMarks
pub mod Loops
pub mod Spoken
pub mod Idle
pub mod TurnParts
pub mod Choice
pub mod CleanLaws
pub mod BlankLaws
