pub mod Layer
pub mod Ready
