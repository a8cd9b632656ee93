pub mod Valuation
pub mod Packed
pub mod Literal
pub mod Solving
pub mod Plain
pub mod Analysis
pub mod Search
pub mod Cut
