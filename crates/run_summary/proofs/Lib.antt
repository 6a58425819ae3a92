pub mod Counting
pub mod Adding
