pub mod Assembly
pub mod Covering
pub mod Rows
pub mod Words
