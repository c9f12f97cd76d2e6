pub mod Answer
pub mod Bounds
pub mod Cycling
pub mod Stepping
pub mod Calling
