pub mod Met
pub mod Reasons
pub mod Claim
