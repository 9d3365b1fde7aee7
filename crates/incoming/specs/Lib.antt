pub mod Inner
pub mod Padding
