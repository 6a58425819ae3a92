pub mod Answers
pub mod Pages
pub mod Bench
pub mod Opened
