pub mod BuiltinCalls
pub mod Constants
pub mod Facts
pub mod Shapes
pub mod Statements
pub mod Units
