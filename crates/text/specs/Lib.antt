pub mod Codes
pub mod Answer
pub mod Scan
