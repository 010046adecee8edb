pub mod Statements
pub mod Lengths
mod Examples
