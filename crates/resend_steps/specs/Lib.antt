pub mod Again
pub mod Answer
