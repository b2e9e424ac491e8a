pub mod Codes
pub mod Entries
pub mod Faults
pub mod Log
pub mod Handling
pub mod Chains
pub mod Ticking
