pub mod Seen
pub mod Codes
pub mod Dialogues
pub mod Joined
pub mod Looking
pub mod Expiring
