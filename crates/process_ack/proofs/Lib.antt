pub mod Ack
pub mod Status
