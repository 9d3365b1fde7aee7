pub mod Account
pub mod Receiver
pub mod Claim
pub mod Half
