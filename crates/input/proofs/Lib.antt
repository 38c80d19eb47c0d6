pub mod First
pub mod Mapped
