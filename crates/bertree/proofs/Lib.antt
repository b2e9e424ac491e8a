pub mod Contents
pub mod Frames
pub mod Heads
pub mod Listings
pub mod Shorts
pub mod States
pub mod Trees
