pub mod Lines
pub mod Seen
pub mod Reading
pub mod Examples
