pub mod Bytes
pub mod Events
pub mod Operators
pub mod SharedMemory
pub mod Types
