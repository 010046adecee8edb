-- Edits, and which of their inserts stand at the places of tokens: those with these numbers, in this order.
use Rattle.std.specs.Prelude.{ℕ, ◌≡◌, true, false, List, [], ◌∷◌, refl, codes}
use Rattle.edit_marks.specs.declared.edit_conflict.edit.Side.TheVariants.{Before, After}
use Rattle.edit_marks.specs.declared.edit_conflict.edit.Edit.{Edit}
use Rattle.edit_unparse.specs.declared.tidy.plan.Placed.{Placed}
use Rattle.edit_unparse.specs.declared.tidy.plan.Spot.{Spot}
use Rattle.edit_unparse.specs.Tidy.Places.{inserts_after, inserts_before}
use Rattle.edit_unparse.specs.Tidy.Spots.{spot}
use Rattle.edit_unparse.proofs.Sketches.{edit, from, insert}

-- an insert, by the numbers of its edit and of itself there, and its depth
abbrev placed : Spot → ℕ → ℕ → ℕ → Placed
placed place edit number depth = record { spot = place; edit = edit; insert = number; depth = depth }

-- `d(a);` becomes `e(a);` and `g(a);`: what the edit has at the last token stands before the first
abbrev two_for_one : List Edit
two_for_one = edit (from 0 5) (insert 4 After (codes "e(a);") ∷ insert 4 After (codes "g(a);") ∷ []) ∷ []

at_the_first : inserts_before two_for_one [] true false 0 (true ∷ true ∷ true ∷ true ∷ []) ≡ placed (spot 0 false) 0 0 0 ∷ placed (spot 0 false) 0 1 0 ∷ []
at_the_first = refl

none_at_the_last : inserts_before two_for_one [] true true 4 [] ≡ []
none_at_the_last = refl

none_behind_the_last : inserts_after two_for_one [] true 4 ≡ []
none_behind_the_last = refl

-- in the order of the tokens, at one token those before it first, and on one side those of earlier edits first
abbrev at_two_tokens : List Edit
at_two_tokens =
    edit (from 0 2) (insert 1 After (codes "a") ∷ insert 1 Before (codes "b") ∷ insert 0 After (codes "c") ∷ [])
    ∷ edit [] (insert 1 Before (codes "d") ∷ insert 2 Before (codes "e") ∷ []) ∷ []

by_tokens_and_sides : inserts_before at_two_tokens [] true false 0 (true ∷ false ∷ [])
    ≡ placed (spot 0 false) 0 2 0 ∷ placed (spot 0 false) 0 1 0 ∷ placed (spot 0 false) 1 0 0 ∷ placed (spot 0 false) 0 0 0 ∷ []
by_tokens_and_sides = refl

-- a run ends where nothing joins
behind_the_run : inserts_before at_two_tokens [] false false 2 [] ≡ placed (spot 2 false) 1 1 0 ∷ []
behind_the_run = refl

-- three statements that end with one token: what stands behind the innermost comes first
abbrev behind_each_statement : List Edit
behind_each_statement =
    edit [] (insert 12 After (codes "g(1);") ∷ []) ∷ edit [] (insert 12 After (codes "g(1);") ∷ []) ∷ edit [] (insert 12 After (codes "g(1);") ∷ []) ∷ []

innermost_first : inserts_after behind_each_statement (1 ∷ 3 ∷ 5 ∷ []) false 12
    ≡ placed (spot 12 true) 2 0 5 ∷ placed (spot 12 true) 1 0 3 ∷ placed (spot 12 true) 0 0 1 ∷ []
innermost_first = refl

-- those of one depth as they stood
as_they_stood : inserts_after behind_each_statement (3 ∷ 1 ∷ 3 ∷ []) false 12
    ≡ placed (spot 12 true) 0 0 3 ∷ placed (spot 12 true) 2 0 3 ∷ placed (spot 12 true) 1 0 1 ∷ []
as_they_stood = refl
