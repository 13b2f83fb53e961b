pub mod Picks
pub mod Steps
pub mod Lift
pub mod Mismatch
pub mod Stuck
pub mod Simulated
pub mod Logs
