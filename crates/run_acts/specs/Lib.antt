-- What contracts depend on, in reading order: the texts on the error output, the acts and what is observed after them, how an
-- act may break, what a load returns, the numbers of the statuses, and a shelf and outputs that stay the same ones.
pub mod Lines
pub mod Acts
pub mod Breaks
pub mod Loaded
pub mod Statuses
pub mod Places
