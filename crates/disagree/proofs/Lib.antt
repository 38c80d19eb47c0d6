pub mod Lists
pub mod Settled
