-- Definitions of run_ends.
-- What the laws depend on: files that are present, and whether one of them is refused or hit; what `--quiet` leaves out,
-- and what `--unread` changes.
pub mod Fates
pub mod Quiet
pub mod Unread
