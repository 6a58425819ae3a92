pub mod Queue
pub mod Rule
pub mod Count
pub mod Seats
pub mod Rooms
