pub mod Attributes
pub mod Declaring
pub mod Readings
pub mod UnitReading
pub mod Verdicts
