pub mod Adding
pub mod Answer
