pub mod Calls
pub mod Operands
pub mod Operators
pub mod Parts
