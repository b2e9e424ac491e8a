pub mod Rising
pub mod Places
pub mod Onlys
pub mod Accounts
pub mod Leasts
pub mod Strays
pub mod Marking
pub mod Pairs
