pub mod Answer
pub mod Clipping
pub mod Dense
pub mod Tables
