pub mod Meaning
pub mod Delivery
pub mod Codes
pub mod RoundTrip
pub mod Export
pub mod Places
pub mod Patterns
pub mod Settled
