pub mod Rests
pub mod Time
pub mod Choosing
pub mod Moving
pub mod Outputs
pub mod Explaining
