pub mod Choose
pub mod Every
pub mod Bytes
pub mod Parts
pub mod Bits
