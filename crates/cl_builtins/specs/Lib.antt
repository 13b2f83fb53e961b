pub mod Found
pub mod Forms
pub mod Kinds
pub mod Names
pub mod Tables
pub mod Values
