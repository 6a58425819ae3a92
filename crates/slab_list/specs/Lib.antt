pub mod Slabs
pub mod Lines
pub mod Bins
