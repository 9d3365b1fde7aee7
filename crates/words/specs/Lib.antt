pub mod Fields
pub mod Packed
