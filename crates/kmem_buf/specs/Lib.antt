pub mod Stubs
pub mod Buffers
pub mod Homes
pub mod Answers
pub mod Board
pub mod Owners
