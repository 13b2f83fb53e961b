pub mod Answered
pub mod Building
pub mod Ready
pub mod Wanted
