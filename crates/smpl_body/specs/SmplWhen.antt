-- Definitions of smpl_when.
-- What public contracts rest on, in reading order: the grammar of clauses, and how a body is split token by token.
pub mod Grammar
pub mod Cutting
