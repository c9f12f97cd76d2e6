pub mod Answer
pub mod Tracing
