pub mod Nodes
pub mod Searching
pub mod LowBytes
pub mod Writing
pub mod Exact
pub mod Claiming
pub mod Settled
