-- What public contracts depend on, in reading order: the type that a declaration gives to a name, what declarations declare,
-- what is seen at a place, the type of an expression, the expressions of an item that have a type.

pub mod Base
pub mod Declarators
pub mod Declarations
pub mod Names
pub mod Fields
pub mod Scopes
pub mod Expressions
pub mod Parts
pub mod Locals
pub mod ItemTypes
-- For internal use: how names are kept, so that the last of each is found by a hash.

pub mod Numbers
pub mod Entries
