pub mod Selections
pub mod Directories
pub mod Firsts
pub mod Parts
pub mod Loads
pub mod GivingMore
pub mod OneLoading
