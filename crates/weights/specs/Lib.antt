pub mod Answer
pub mod Listing
pub mod Words
