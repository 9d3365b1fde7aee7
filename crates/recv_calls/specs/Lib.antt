pub mod Flat
pub mod Removed
pub mod Calls
pub mod Laws
pub mod Replies
pub mod Within
