pub mod Seen
pub mod Cancelling
pub mod Asking
pub mod Writing
pub mod Staying
