pub mod Enough
pub mod Laws
pub mod Whole
