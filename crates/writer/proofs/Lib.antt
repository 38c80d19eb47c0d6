pub mod Laws
pub mod Places
pub mod Patterns
pub mod RoundTrip
pub mod Settled
