pub mod Files
pub mod Nine
pub mod Windows
