pub mod Answer
pub mod Asking
