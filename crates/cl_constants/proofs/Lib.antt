pub mod Lists
pub mod Nodes
pub mod Numbers
pub mod Widths
