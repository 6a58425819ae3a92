pub mod Working
pub mod Sharing
