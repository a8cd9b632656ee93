pub mod Chosen
pub mod Fitting
pub mod EachItem
pub mod Grown
pub mod Kept
