pub mod Timers
pub mod Index
pub mod First
