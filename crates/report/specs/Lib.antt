pub mod Answer
pub mod Printing
pub mod Wording
