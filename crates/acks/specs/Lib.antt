pub mod Acks
