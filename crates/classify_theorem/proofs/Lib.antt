pub mod Answers
pub mod Dealing
pub mod Hearing
pub mod Theorem
pub mod Rules
pub mod Story
pub mod Words
