pub mod Keeps
pub mod Leads
pub mod Undamaged
