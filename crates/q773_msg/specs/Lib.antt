pub mod Seen
pub mod Sent
