-- What public contracts rest on, in reading order: how deep a body is, which trees spell it, what its dots are, its faults
-- and its elements, and, for a law, the numbers of patterns.
pub mod Deep
pub mod Spelled
pub mod DotsOf
pub mod Bodies
pub mod Numbered
-- For internal use: what is kept while trees are read.
pub mod SoFar
-- What smpl_when defines.
pub mod SmplWhen
-- What smpl_elem defines.
pub mod SmplElem
