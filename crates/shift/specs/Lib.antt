pub mod Answer
pub mod Shifting
