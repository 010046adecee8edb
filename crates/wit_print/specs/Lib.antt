-- What the contract rests on: the report of a file.
pub mod Report
-- For internal use: the witnesses of each rule, by its number.
pub mod Groups
