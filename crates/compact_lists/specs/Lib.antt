pub mod Codes
pub mod CodesAgain
pub mod Items
pub mod Literals
pub mod Pieces
