pub mod Answers
pub mod Positions
pub mod Settings
pub mod Statements
pub mod UnitAnswers
pub mod Units
pub mod Values
