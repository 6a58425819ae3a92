pub mod Shelves
pub mod Stores
