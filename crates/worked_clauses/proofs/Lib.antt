pub mod Formed
pub mod Wholes
