pub mod Breaking
pub mod Least
pub mod LeastBroken
mod Samples
pub mod Smallest
pub mod Structured
pub mod Unbroken
