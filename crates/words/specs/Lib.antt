pub mod Words
pub mod Counted
pub mod Eight
