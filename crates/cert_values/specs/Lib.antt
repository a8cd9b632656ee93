pub mod SelectedLiteral
pub mod Values
pub mod Wholes
