pub mod Breaking
pub mod Laying
pub mod Rows
pub mod Sizes
pub mod Starting
