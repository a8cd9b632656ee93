pub mod Stamps
pub mod MarkedSets
pub mod Hints
pub mod Steps
pub mod Verdicts
