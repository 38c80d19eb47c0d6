pub mod Lists
pub mod Seek
pub mod Completions
pub mod Order
pub mod Cut
