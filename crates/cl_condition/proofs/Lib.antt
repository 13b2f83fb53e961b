pub mod Judgements
pub mod Reading
pub mod Terms
pub mod Unambiguous
