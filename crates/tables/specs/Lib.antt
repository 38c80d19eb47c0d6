pub mod Tables
pub mod Ready
