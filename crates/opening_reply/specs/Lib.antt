pub mod Opening
pub mod Keeps
