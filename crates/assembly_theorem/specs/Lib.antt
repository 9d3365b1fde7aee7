pub mod Account
pub mod Claim
pub mod Rules
pub mod Agreement
