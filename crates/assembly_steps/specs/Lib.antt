pub mod Parts
pub mod Sums
pub mod Steps
