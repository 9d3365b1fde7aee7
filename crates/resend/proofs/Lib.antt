pub mod Resend
