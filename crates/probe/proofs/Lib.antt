pub mod Dead
pub mod Settled
