pub mod Answer
pub mod Keys
