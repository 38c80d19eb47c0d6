pub mod Seen
pub mod Keywords
pub mod InLine
pub mod Cubes
pub mod Written
pub mod Writing
pub mod Settled
