-- Lists of numbers, as they are kept: all numbers one after another, and where each list ends.
use Rattle.std.specs.Prelude.{ℕ, ◌≤◌, List, [], ◌∷◌, slice_range}

-- the lists that end at these places, the first of which begins at `from`
abbrev pub lists_of : ℕ → List ℕ → List ℕ → List (List ℕ)
lists_of from [] numbers = []
lists_of from (e ∷ es) numbers = slice_range numbers from e ∷ lists_of e es numbers

-- where the last of them ends
abbrev pub last_end : ℕ → List ℕ → ℕ
last_end from [] = from
last_end from (e ∷ es) = last_end e es

-- no list ends before the one that it follows
abbrev pub AreEnds : ℕ → List ℕ → Type 0
AreEnds from [] = Unit {0}
AreEnds from (e ∷ es) = (from ≤ e) × AreEnds e es

-- such ends within `count` numbers
pub record AreKept (ends : List ℕ) (count : ℕ) : Type 0 where
  pub rising : AreEnds 0 ends
  pub within : last_end 0 ends ≤ count
