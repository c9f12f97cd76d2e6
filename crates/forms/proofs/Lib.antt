pub mod Heads
pub mod Place
pub mod Reading
pub mod Tests
