pub mod Operands
pub mod Widths
