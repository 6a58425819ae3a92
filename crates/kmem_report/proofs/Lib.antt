pub mod Left
pub mod Sizes
pub mod Held
