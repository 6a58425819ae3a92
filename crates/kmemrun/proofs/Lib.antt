pub mod Running
pub mod Making
