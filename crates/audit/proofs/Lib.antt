pub mod Orders
pub mod Entries
pub mod Places
pub mod Texts
pub mod Saving
