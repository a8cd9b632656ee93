pub mod Marks
pub mod Shown
