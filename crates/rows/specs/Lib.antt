pub mod Rows
pub mod Known
