pub mod Filling
pub mod Interning
pub mod Measuring
pub mod Places
pub mod Rows
