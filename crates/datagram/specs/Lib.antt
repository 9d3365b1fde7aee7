pub mod Datagram
pub mod Sound
pub mod Keeps
