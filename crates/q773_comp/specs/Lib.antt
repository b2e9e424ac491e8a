pub mod Seen
pub mod Kinds
pub mod Forms
pub mod Sent
