mod Rows
mod Samples
pub mod Fitting
pub mod Lists
pub mod Spelling
pub mod Tests
pub mod Lengths
