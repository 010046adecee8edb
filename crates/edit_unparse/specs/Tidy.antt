-- Definitions of the tidied text.
-- The modules that contracts rest on, in reading order: the places of tokens, which inserts stand there, which commas go, the
-- text, what a plan says, what goes with the commas, edits whose text is cut into what it was assembled from, and what no rule
-- takes away.
pub mod Spots
pub mod Places
pub mod Commas
pub mod Text
pub mod Plans
pub mod Fallen
pub mod Fair
pub mod Lasting
-- For internal use: inserts as the code finds them, flags of tokens, and the parts that the code makes.
pub mod Found
pub mod Flags
pub mod Made
pub mod Clearing
