pub mod Lines
pub mod Orders
pub mod Listing
pub mod Saving
pub mod Examples
pub mod Gathered
