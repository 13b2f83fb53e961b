pub mod Conditions
pub mod Operators
pub mod Readings
pub mod Values
