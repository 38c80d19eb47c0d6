pub mod Checking
