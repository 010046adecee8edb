-- Whether two texts run together, as a test that computes.
use Rattle.std.specs.Prelude.{ℕ, Bool, true, false, not, ◌||◌, ◌&&◌, List, [], ◌∷◌, take, Option, Some, None}
use Rattle.std.specs.Str.{bytes_eq}
use Rattle.c_lexer.specs.declared.state.State.{State}
use Rattle.c_lexer.specs.declared.state.State.TheVariants.{Start}
use Rattle.c_lexer.specs.Kinds.{walk, step, kind_at}

-- whether no prefix of the bytes completes a text of a kind
abbrev pub never_accepts : State → List ℕ → Bool
never_accepts q [] = true
never_accepts q (b ∷ bs) = elim (step q b) as (λ r. Bool) [
  | None ↦ true
  | Some t ↦ elim (kind_at t) as (λ r. Bool) [ None ↦ never_accepts t bs | Some k ↦ false ]
]

abbrev pub is_longer_from : Option State → List ℕ → Bool
is_longer_from None right = true
is_longer_from (Some q) right = elim (kind_at q) as (λ r. Bool) [ None ↦ true | Some k ↦ not (never_accepts q right) ]

-- whether the left text is not the first piece of both
abbrev pub is_longer : List ℕ → List ℕ → Bool
is_longer left right = is_longer_from (walk (Some Start) left) right

-- Whether two texts run together if there is no space between them: the left one is not the first piece of both, or it is
-- `.` and the right one begins with `.`, which a third `.` would join.
unfoldable pub runs_together : List ℕ → List ℕ → Bool
runs_together left right = is_longer left right || (bytes_eq left (46 ∷ []) && bytes_eq (take 1 right) (46 ∷ []))
