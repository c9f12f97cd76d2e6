pub mod Answer
pub mod Run
pub mod Belongs
pub mod Apart
pub mod Tables
