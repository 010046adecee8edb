-- What public contracts rest on, in reading order: what declarations declare, what earlier rules have, and a rule's head.
pub mod Forms
pub mod TypeNames
pub mod Typed
pub mod Declarations
pub mod Known
pub mod Decls
pub mod Heads
pub mod Spelled
pub mod Before
-- What the crates above use to read bodies.
pub mod Patterns
-- For internal use: indexes of names, and the lengths of parts.
pub mod Splits
pub mod Shunting
pub mod Index
pub mod Seen
