pub mod Faults
pub mod Files
pub mod Holdings
pub mod Host
pub mod Sink
pub mod Steady
