pub mod Locking
pub mod LockCallers
pub mod IdleNodes
