pub mod Renaming
pub mod Trees
pub mod Verdicts
