pub mod Answers
pub mod Bytes
pub mod Characters
pub mod Fronts
pub mod Joined
pub mod Marks
pub mod Numbers
pub mod Tokens
