pub mod Cut
pub mod Message
pub mod Laws
