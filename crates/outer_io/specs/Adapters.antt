-- A stream as a sink, and the files of the system as a shelf.
use Rattle.std.specs.Prelude.{ℕ}

-- the writer of a stream, and how often a put has failed
pub record StreamState (W : Type 0) : Type 0 where
  pub writer : W
  pub faults : ℕ

-- how many stores of files there were, done or failed, and how often a load or a store has failed
pub record FilesState : Type 0 where
  pub stores : ℕ
  pub faults : ℕ
