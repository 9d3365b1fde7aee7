pub mod Tests
pub mod Resend
