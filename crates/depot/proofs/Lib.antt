pub mod Totals
pub mod Keeps
pub mod Moves
pub mod Shares
pub mod Tries
pub mod Ending
