pub mod Grammar
pub mod Instructions
pub mod Interface
pub mod Options
pub mod Readings
pub mod Words
