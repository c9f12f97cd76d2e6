pub mod Chart
pub mod Held
pub mod Initial
