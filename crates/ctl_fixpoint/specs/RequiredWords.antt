-- Definitions of required_words.
-- The modules that public contracts rest on.
pub mod Words
pub mod FormGroups
-- For internal use: in which patterns of a table words occur.
pub mod Standing
