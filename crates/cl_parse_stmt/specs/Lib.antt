pub mod Looks
pub mod Readings
