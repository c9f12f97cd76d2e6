pub mod Answer
pub mod Page
pub mod Sides
pub mod Whole
