pub mod Terms
pub mod Seen
