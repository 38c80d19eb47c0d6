pub mod Trees
pub mod Claims
pub mod Reading
