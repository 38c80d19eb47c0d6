pub mod Scans
pub mod Pieces
pub mod Decimals
pub mod Settled
pub mod Marks
