pub mod Classify
pub mod Laws
