pub mod LockCalls
