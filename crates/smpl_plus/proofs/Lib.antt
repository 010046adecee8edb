pub mod Cutting
pub mod Ordered
pub mod Closing
pub mod Ending
pub mod Splitting
pub mod PlusOnce
pub mod Short
pub mod Examples
