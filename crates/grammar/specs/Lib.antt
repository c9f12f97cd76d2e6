pub mod Grammar
pub mod Meaning
pub mod Answer
pub mod Pen
