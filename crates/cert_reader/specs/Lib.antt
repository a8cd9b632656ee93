pub mod Reads
pub mod Groups
pub mod Bodies
pub mod Starts
