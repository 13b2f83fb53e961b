pub mod Runs
pub mod Schedules
pub mod Once
mod Samples
