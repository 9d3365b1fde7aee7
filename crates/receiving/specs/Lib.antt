pub mod Receiving
pub mod Leads
pub mod Calls
pub mod Laws
pub mod Within
pub mod Never
pub mod Rows
pub mod Least
