mod Deciding
mod Spelled
