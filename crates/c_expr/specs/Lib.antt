-- What public contracts depend on.

pub mod Answer
-- What the steps of the parser ensure.

pub mod Steps
pub mod Ends
pub mod Semicolons
pub mod Sight
pub mod Recognizers
