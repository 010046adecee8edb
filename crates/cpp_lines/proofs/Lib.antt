pub mod Words
pub mod Groups
pub mod Progress
pub mod Rising
pub mod ItemProgress
pub mod Choice
pub mod Examples
