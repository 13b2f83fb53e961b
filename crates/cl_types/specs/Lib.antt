pub mod Equal
pub mod Laws
pub mod Layout
pub mod Rows
pub mod Same
pub mod Table
