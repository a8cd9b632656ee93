pub mod Notes
pub mod Keeping
pub mod Parts
pub mod Reductions
pub mod Known
pub mod Cores
pub mod Unrolls
pub mod Terms
