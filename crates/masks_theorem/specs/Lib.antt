pub mod Hosts
pub mod Claim
