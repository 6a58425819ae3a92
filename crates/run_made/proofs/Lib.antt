pub mod Alone
pub mod Totals
pub mod Summing
