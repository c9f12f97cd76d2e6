pub mod Bytes
pub mod Loops
pub mod Sets
pub mod Visiting
