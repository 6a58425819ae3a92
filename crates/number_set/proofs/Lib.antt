pub mod Masks
pub mod Down
pub mod Flags
pub mod Rising
