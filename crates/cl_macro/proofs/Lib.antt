pub mod Each
pub mod Indexing
pub mod Joining
pub mod Leading
pub mod Reversed
pub mod Unique
