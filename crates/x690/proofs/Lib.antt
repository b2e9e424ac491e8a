pub mod Encoding
pub mod Forests
pub mod Identifiers
pub mod Lengths
pub mod Readings
pub mod Spellings
pub mod Computed
