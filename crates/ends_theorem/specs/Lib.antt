pub mod Ledger
pub mod Sender
pub mod Flights
pub mod World
pub mod Deals
pub mod Claim
