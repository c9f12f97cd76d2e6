pub mod Accepted
pub mod Examples
pub mod Kept
pub mod Laws
