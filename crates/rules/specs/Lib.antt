pub mod Lists
pub mod Rules
