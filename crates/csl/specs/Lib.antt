pub mod Seen
pub mod Endings
pub mod Effects
pub mod Tables
pub mod Expiring
pub mod First
