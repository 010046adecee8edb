pub mod Together
pub mod Pages
pub mod Examples
