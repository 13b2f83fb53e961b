pub mod Expressions
pub mod Judging
pub mod Members
pub mod Offences
pub mod Scopes
pub mod Sizes
pub mod Syntax
pub mod Typing
