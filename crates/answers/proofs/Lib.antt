pub mod Faults
pub mod Verdicts
pub mod Stores
pub mod Told
pub mod Settled
