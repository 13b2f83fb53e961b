pub mod Interface
pub mod Limits
pub mod Rows
pub mod Types
