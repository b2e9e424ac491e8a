pub mod Accepting
pub mod Seen
