pub mod Contents
pub mod Faults
pub mod Head
pub mod Listed
pub mod Nodes
