-- The acts of a run, and what is observed after them.
use Rattle.std.specs.Prelude.{ℕ, List, [], ◌∷◌, Option}
use Rattle.outer_io.specs.Files.{Files, stored, grown}
use Rattle.outer_io.specs.Faults.{counted}

-- an effect of a run
pub data Act : Type 0 where
  -- it loads what is stored under the name, if that is no longer than the limit
  Load : (name : List ℕ) (limit : ℕ) → Act
  -- it stores the bytes under the name
  Store : (name bytes : List ℕ) → Act
  -- it puts the bytes on the output
  Print : (bytes : List ℕ) → Act
  -- it puts the line on the error output
  Report : (line : List ℕ) → Act

-- what the shelf, the output and the error output reveal, if they reveal anything, and the number of stores
pub record Observed : Type 0 where
  pub files : Option Files
  pub stores : ℕ
  pub out : Option (List ℕ)
  pub err : Option (List ℕ)

abbrev pub observed : Option Files → ℕ → Option (List ℕ) → Option (List ℕ) → Observed
observed files stores out err = record { files = files; stores = stores; out = out; err = err }

-- what is observed when the act is done; a store counts even if it changes no byte, and a load leaves no trace
abbrev pub after_act : Act → Observed → Observed
after_act (Load name limit) old = old
after_act (Store name bytes) old = observed (stored old.files name bytes) (counted old.stores) old.out old.err
after_act (Print bytes) old = observed old.files old.stores (grown old.out bytes) old.err
after_act (Report line) old = observed old.files old.stores old.out (grown old.err line)

-- what is observed when a store failed: it was counted, and the files are as before
abbrev pub after_failed_store : Observed → Observed
after_failed_store old = observed old.files (counted old.stores) old.out old.err

-- what is observed when the acts are done, in order
abbrev pub after : List Act → Observed → Observed
after [] old = old
after (act ∷ acts) old = after acts (after_act act old)
