pub mod Queue
pub mod Laid
