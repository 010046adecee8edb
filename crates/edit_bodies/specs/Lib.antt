-- The modules that contracts rest on, in reading order: whether what stands in the place of a body needs braces, the tokens that stand
-- there, what becomes of bodies, and the layout of the tidied text.
pub mod Needs
pub mod Rows
pub mod Looks
pub mod Gone
pub mod Calm
pub mod Laid
-- For internal use: braces by tokens, and what the code has of the new text.
pub mod Places
pub mod Scenes
pub mod Outcomes
