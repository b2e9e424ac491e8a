pub mod Location
pub mod Seen
