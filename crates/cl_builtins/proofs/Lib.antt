pub mod Growth
pub mod Leading
pub mod Limits
pub mod Lookups
pub mod Naming
pub mod Saturated
pub mod Soundness
pub mod Taken
