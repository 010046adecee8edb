-- What public contracts rest on: which lists of answers and which faults some jobs may have.

pub mod Answers
-- For internal use: the outcome of a range of jobs.

pub mod Parts
