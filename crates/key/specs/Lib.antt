pub mod Answer
pub mod Turning
