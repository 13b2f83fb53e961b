pub mod Fills
pub mod Lists
pub mod Parts
pub mod Pieces
pub mod Values
pub mod Variables
