pub mod Texts
pub mod Inputs
pub mod Programs
pub mod Enough
pub mod Settled
