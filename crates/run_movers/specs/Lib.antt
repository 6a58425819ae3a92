pub mod Movers
pub mod Histories
