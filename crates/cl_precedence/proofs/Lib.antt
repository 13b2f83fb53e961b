pub mod Last
pub mod Rows
pub mod Standing
pub mod Unique
