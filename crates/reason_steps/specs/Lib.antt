pub mod State
pub mod Steps
pub mod Kept
pub mod Writing
pub mod Room
