pub mod Answers
pub mod Verdicts
