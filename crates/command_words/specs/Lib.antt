pub mod Commands
pub mod Numbers
pub mod Asked
pub mod Errors
