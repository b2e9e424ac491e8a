pub mod Reading
mod Operations
