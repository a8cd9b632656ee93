pub mod Collecting
pub mod Pairs
