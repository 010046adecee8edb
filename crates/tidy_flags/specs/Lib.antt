-- The modules that contracts rest on: flags of tokens, which lines are emptied, what parts are for lists, and which parts of a
-- list stay.
pub mod Flags
pub mod Lines
pub mod Signs
pub mod Clearing
