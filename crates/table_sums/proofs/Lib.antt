pub mod Totals
pub mod Spreads
