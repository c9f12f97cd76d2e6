pub mod Unique
pub mod bounds
pub mod stepping
