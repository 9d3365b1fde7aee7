pub mod Spans
pub mod Assembly
pub mod Numbers
