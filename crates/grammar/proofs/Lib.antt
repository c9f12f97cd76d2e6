pub mod Examples
pub mod Reader
pub mod Rows
pub mod Saying
pub mod Unique
pub mod Writing
