pub mod CountMoves
pub mod Draining
pub mod Ending
pub mod Gathering
pub mod Lists
pub mod Refused
pub mod RingMoves
