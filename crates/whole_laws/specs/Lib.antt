pub mod Lay
pub mod Example
