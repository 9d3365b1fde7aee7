pub mod Nonce
