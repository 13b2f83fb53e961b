pub mod Answers
pub mod Bytes
pub mod Declarations
pub mod Initialisers
pub mod Placing
