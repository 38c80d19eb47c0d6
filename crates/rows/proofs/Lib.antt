pub mod First
pub mod Knows
pub mod Scanned
pub mod Settled
