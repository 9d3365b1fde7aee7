pub mod Last
pub mod Nonces
pub mod Settles
