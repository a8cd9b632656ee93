pub mod Again
pub mod Pieces
pub mod Steps
