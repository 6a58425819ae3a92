pub mod Lists
pub mod Stocked
pub mod Freed
mod Joined
pub mod Rooms
pub mod Full
pub mod Tracked
pub mod Planned
