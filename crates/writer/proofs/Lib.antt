pub mod Examples
pub mod One
pub mod ReadBack
pub mod Standing
pub mod Unique
pub mod WriteBack
