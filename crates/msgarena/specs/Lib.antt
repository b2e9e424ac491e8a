pub mod JudgedFrame
pub mod Kept
pub mod Seen
pub mod Taken
