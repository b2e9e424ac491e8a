pub mod Calls
pub mod Handles
pub mod Lookups
pub mod Refusals
pub mod Replay
pub mod Restoring
