pub mod Worlds
pub mod Simulation
pub mod Histories
