pub mod Reported
pub mod Bench
