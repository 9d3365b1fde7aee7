pub mod Flight
pub mod Save
pub mod Status
