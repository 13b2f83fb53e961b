pub mod Advances
pub mod Comments
pub mod Joining
pub mod Marks
pub mod Numbers
pub mod Reading
pub mod Verdicts
