pub mod Answer
pub mod Tallying
pub mod Weighing
