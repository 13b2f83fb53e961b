pub mod Cells
pub mod Events
pub mod Invocation
pub mod Schedule
pub mod Start
pub mod Worlds
