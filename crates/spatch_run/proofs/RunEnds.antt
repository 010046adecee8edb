-- Lemmas of run_ends.
-- Examples; what files do, the reason of a run, its status, words with other jobs, what `--quiet` leaves out, and what
-- `--unread` changes.
mod Examples
pub mod FileLemmas
pub mod ReasonLemmas
pub mod StatusLemmas
pub mod JobLemmas
pub mod QuietLines
pub mod QuietFiles
pub mod QuietLemmas
pub mod QuietWords
pub mod NoteLemmas
pub mod UnreadFiles
pub mod UnreadLemmas
pub mod UnreadWords
