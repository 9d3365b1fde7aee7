pub mod Laws
pub mod Send
