pub mod FirstTimer
pub mod Play
pub mod Worked
pub mod Numbers
