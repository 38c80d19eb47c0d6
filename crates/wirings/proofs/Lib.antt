pub mod Choices
pub mod Wirings
pub mod Dead
pub mod Indexed
pub mod Agreement
pub mod Death
pub mod Examples
