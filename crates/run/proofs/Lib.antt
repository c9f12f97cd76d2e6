pub mod Unique
pub mod apart
