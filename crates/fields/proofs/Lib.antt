pub mod Exits
pub mod Laws
pub mod Unique
