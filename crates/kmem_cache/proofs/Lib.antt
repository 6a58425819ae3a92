pub mod Histories
pub mod Magazines
pub mod Seating
pub mod Flushes
pub mod Partings
pub mod Openings
pub mod Reapings
