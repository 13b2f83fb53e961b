pub mod Objects
pub mod Offences
pub mod Routines
