pub mod Stock
pub mod Moves
pub mod Cache
pub mod Modes
pub mod Scans
pub mod Plans
pub mod Bench
