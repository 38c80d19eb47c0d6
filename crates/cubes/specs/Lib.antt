pub mod Cubes
pub mod Values
