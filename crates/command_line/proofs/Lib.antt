pub mod Building
pub mod Plain
pub mod Levels
pub mod Reading
pub mod Refused
