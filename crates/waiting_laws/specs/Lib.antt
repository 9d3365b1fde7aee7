pub mod Calls
pub mod Answers
pub mod Queued
pub mod Takes
