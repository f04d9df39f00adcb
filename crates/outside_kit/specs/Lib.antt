pub mod Calls
pub mod MemSink
pub mod MemStore
