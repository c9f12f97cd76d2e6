pub mod Numbers
pub mod Framing
pub mod Bodies
pub mod Answer
pub mod Reading
