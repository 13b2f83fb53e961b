pub mod Grouping
pub mod Waiting
