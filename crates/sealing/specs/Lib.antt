pub mod Seek
pub mod Heads
pub mod Sealing
pub mod Laws
