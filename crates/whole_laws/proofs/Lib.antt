pub mod Leaves
pub mod Queued
pub mod Whole
pub mod Lay
