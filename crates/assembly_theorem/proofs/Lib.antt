pub mod Agreement
pub mod Answers
pub mod Example
pub mod Laws
pub mod Theorem
pub mod ReadLaws
pub mod Rules
pub mod Story
