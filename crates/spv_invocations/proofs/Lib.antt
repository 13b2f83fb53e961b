pub mod Runs
pub mod Groups
pub mod Once
pub mod Schedules
pub mod Exists
mod Samples
mod Agreeing
