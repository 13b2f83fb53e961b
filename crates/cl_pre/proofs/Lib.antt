pub mod Leading
pub mod Limits
pub mod Sameness
pub mod Settling
pub mod Steps
pub mod Unique
