-- What may follow branches, and rows of parts: each row is of one branch, and has a part for each thing that may
-- follow.
use Rattle.std.specs.Prelude.{◌≡◌, ◌⊎◌, ℕ, ◌-◌, ◌<◌, Bool, true, ◌&&◌, nat_eq, List, [], ◌∷◌, ◌++◌, map, length, slice_get, slice_index_or, Some}
use Rattle.std.specs.List.{list_all}
use Rattle.ctl_formula.specs.Plain.{Plain}
use Rattle.ctl_formula.specs.declared.node.Node.{Node}
use Rattle.ctl_formula.specs.Tables.{at, Grows}
use Rattle.ctl_table.specs.Table as table
use Rattle.ctl_table.specs.declared.follow.Continuation.{Continuation}
use Rattle.ctl_table.specs.declared.follow.Continuation.TheVariants as made
use Rattle.ctl_table.specs.Settings.{all_below, parts_at}

-- nothing is the last thing that may follow: if it wasn't, it is appended
pub record EndsWithNothing (nexts all : List Continuation) : Type 0 where
  pub kept : (all ≡ nexts) ⊎ (all ≡ nexts ++ made.Nothing ∷ [])
  pub last : slice_get all (length all - 1) ≡ Some made.Nothing

-- the part with this number in each row
abbrev pub column : ℕ → List (List ℕ) → List ℕ
column j rows = map (λ row. slice_index_or row j 0) rows

-- each row has this many parts, and each part's number is below n
abbrev pub rows_within : ℕ → ℕ → List (List ℕ) → Bool
rows_within n width rows = list_all (λ row. nat_eq (length row) width && all_below n row) rows

-- The first branch that holds: column j has the branches except the last, each with what follows, and the last column
-- has them alone; end j is the last branch with what follows.
abbrev pub first_of_column : List Plain → List (List ℕ) → List ℕ → ℕ → ℕ → Plain
first_of_column fs rows ends last j =
    table.any_of (table.choices []
    (map (at fs) (column j rows) ++ at fs (slice_index_or ends j 0) ∷ [])
    (map (at fs) (column last rows)))

-- Column by column, the parts are the formulas that belong to each thing that may follow, and the old parts are
-- unchanged.
pub record MakesColumns (old new : List Node) (nexts : List Continuation) (rows : List (List ℕ)) (fs : Continuation → List Plain) : Type 0 where
  pub within : rows_within (length new) (length nexts) rows ≡ true
  pub are : (j : ℕ) (d : Continuation) → j < length nexts → parts_at new (column j rows) ≡ fs (slice_index_or nexts j d)
  pub grows : Grows old new
