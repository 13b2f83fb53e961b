pub mod Longest
pub mod Reading
