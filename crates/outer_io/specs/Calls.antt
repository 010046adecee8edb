-- Shelves and sinks in memory, of whose calls some fail by their numbers, which begin at 0.
use Rattle.std.specs.Prelude.{ℕ, List, Bool, not, leb, ◌==◌, ◌&&◌, if◌then◌else◌}
use Rattle.std.specs.List.{list_any, filter}
use Rattle.c_terms.specs.Same.{same_bytes}
use Rattle.outer_io.specs.Files.{Files}
use Rattle.outer_io.specs.Faults.{counted}

-- how many calls were made, the numbers of those that fail, and how many failed
pub record Calls : Type 0 where
  pub done : ℕ
  pub fail : List ℕ
  pub faults : ℕ

-- whether the next call is one that fails
abbrev pub next_fails : Calls → Bool
next_fails calls = list_any (λ number. number == calls.done) calls.fail

-- after one more call, which failed or not
abbrev pub after_call : Calls → Bool → Calls
after_call calls failed = record {
  done = counted calls.done;
  fail = calls.fail;
  faults = if failed then counted calls.faults else calls.faults;
}

-- no call was made, and these fail
abbrev pub no_calls : List ℕ → Calls
no_calls fail = record { done = 0; fail = fail; faults = 0 }

-- Whether another program rewrote what is under the name by the call of this number. A rewrite has the number of the
-- call before which it happens, and its name.
abbrev pub is_rewrite_of : List ℕ → ℕ → ℕ × List ℕ → Bool
is_rewrite_of name call rewrite = leb rewrite.0 call && same_bytes rewrite.1 name

-- a shelf in memory: its files, how many stores were done or failed, its calls, and the rewrites by another program
-- that no load has noticed
pub record ShelfState : Type 0 where
  pub files : Files
  pub stores : ℕ
  pub calls : Calls
  pub rewrites : List (ℕ × List ℕ)

-- whether what is under the name was rewritten before the next call, and not loaded since
abbrev pub is_rewritten : ShelfState → List ℕ → Bool
is_rewritten shelf name = list_any (is_rewrite_of name shelf.calls.done) shelf.rewrites

-- the rewrites that are left when the next call has loaded what is under the name
abbrev pub other_rewrites : ShelfState → List ℕ → List (ℕ × List ℕ)
other_rewrites shelf name = filter (λ rewrite. not (is_rewrite_of name shelf.calls.done rewrite)) shelf.rewrites

-- a sink in memory: its bytes and its calls
pub record SinkState : Type 0 where
  pub bytes : List ℕ
  pub calls : Calls

-- a shelf in memory none of whose calls fails: its files, how many stores were done, and how many calls were made
pub record CalmShelfState : Type 0 where
  pub files : Files
  pub stores : ℕ
  pub calls : ℕ

-- a sink in memory none of whose puts fails: its bytes, and how many puts were made
pub record CalmSinkState : Type 0 where
  pub bytes : List ℕ
  pub calls : ℕ
