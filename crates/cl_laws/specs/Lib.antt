pub mod Agreement
pub mod Fitting
pub mod TypedTrees
