pub mod Unique
pub mod rests
