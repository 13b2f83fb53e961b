pub mod Readings
pub mod Reflection
pub mod Writing
