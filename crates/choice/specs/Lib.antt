pub mod Choice
pub mod Reason
