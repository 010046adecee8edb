-- What the public contracts rest on, in reading order: the lines of a file, its blocks, the parts of a block, what is
-- lost between its sides, isomorphisms and faults.
pub mod Lines
pub mod Blocks
pub mod Sides
pub mod Lost
pub mod Isos
pub mod Stepped
