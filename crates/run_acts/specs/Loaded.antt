-- What a load returns, by what is stored under the name.
use Rattle.std.specs.Prelude.{ℕ, ◌≡◌, ◌<◌, ◌≤◌, List, Option, Some, None, length, IsSome, IsSomeAnd}
use Rattle.std.specs.FinMap.{get}
use Rattle.outer_io.specs.Files.{Files}
use Rattle.run_acts.specs.declared.acts.Loaded.{Loaded}
use Rattle.run_acts.specs.declared.acts.Loaded.TheVariants.{Bytes, TooLong, Absent}

-- This may be stored under a name: what the shelf reveals, or some bytes if it reveals nothing.
abbrev pub Found : Option Files → List ℕ → Option (List ℕ) → Type 0
Found None name under = IsSome under
Found (Some files) name under = under ≡ get files name

-- a load with this limit returns this, by what is stored under the name
abbrev pub Gives : Option (List ℕ) → ℕ → Loaded → Type 0
Gives under limit (Bytes bytes) = (under ≡ Some bytes.items) × (length bytes.items ≤ limit)
Gives under limit TooLong = IsSomeAnd under (λ bytes. limit < length bytes)
Gives under limit Absent = under ≡ None
