pub mod Form
pub mod Table
