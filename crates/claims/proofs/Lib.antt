pub mod Trees
pub mod Reading
pub mod Refusals
pub mod Own
pub mod Longest
