pub mod Keeps
pub mod Moves
pub mod Shares
pub mod Hands
pub mod Turns
pub mod Passes
pub mod Ending
pub mod Tallies
