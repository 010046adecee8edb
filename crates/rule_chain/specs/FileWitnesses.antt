-- Definitions of file_witnesses.
-- What the contract of `witnesses` depends on.
pub mod Seen
pub mod Found
-- For internal use: items in which a rule finds nothing, since they lack a word.
pub mod Lacking
-- For internal use: what is found under several environments, a list for each.
pub mod Lists
-- For internal use: the items in which a rule may find something, and the graphs that are lent to their jobs.
pub mod Chosen
pub mod Lent
-- For internal use: what one job requires, and what it finds.
pub mod Required
pub mod Jobs
-- For internal use: what is kept of the items for the environments after the first.
pub mod Kept
