pub mod Wirings
pub mod Pairs
