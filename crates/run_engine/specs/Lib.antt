pub mod Quotas
pub mod Opened
pub mod Openings
pub mod Done
pub mod Ran
pub mod Closed
pub mod Over
