pub mod Answering
pub mod Asked
pub mod Growing
pub mod Limits
pub mod Stays
pub mod Trees
