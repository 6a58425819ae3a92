pub mod Within
pub mod Freeing
pub mod Settling
pub mod Sizes
pub mod Asked
pub mod Left
pub mod Endings
