pub mod Tests
pub mod Below
pub mod Bit
pub mod Mask
pub mod Smallest
