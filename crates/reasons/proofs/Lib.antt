pub mod Example
pub mod Laws
pub mod Meeting
pub mod Claim
pub mod Known
pub mod Cases
