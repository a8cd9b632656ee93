pub mod Comparisons
pub mod Conclusions
pub mod Instances
