pub mod Fields
pub mod Qualifiers
