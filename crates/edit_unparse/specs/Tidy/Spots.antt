-- The places of tokens, and inserts that stand there.
use Rattle.std.specs.Prelude.{ℕ, zero, suc, ◌+◌, ◌*◌, ◌==◌, Bool, List, [], ◌∷◌, ◌++◌, filter, slice_get, if◌then◌else◌}
use Rattle.edit_marks.specs.declared.edit_conflict.edit.Edit.{Edit}
use Rattle.edit_unparse.specs.declared.tidy.plan.Spot.{Spot}
use Rattle.edit_unparse.specs.declared.tidy.plan.Placed.{Placed}
use Rattle.edit_unparse.specs.declared.tidy.parts.Brace.{Brace}
use Rattle.edit_unparse.specs.Written.{edit_text, option_list}

abbrev pub spot : ℕ → Bool → Spot
spot token after = record { token = token; after = after }

-- the place of a spot among those of all tokens: two for each token, the one before it first
abbrev pub spot_number : Spot → ℕ
spot_number s = if s.after then 2 * s.token + 1 else 2 * s.token

abbrev pub placed_number : Placed → ℕ
placed_number p = spot_number p.spot

abbrev pub brace_number : Brace → ℕ
brace_number b = spot_number (spot b.token b.after)

abbrev pub is_number : ℕ → Placed → Bool
is_number number p = placed_number p == number

-- the texts of these inserts
abbrev pub placed_texts : List Edit → List Placed → List (List ℕ)
placed_texts edits [] = []
placed_texts edits (p ∷ inserts) = option_list (edit_text (slice_get edits p.edit) p.insert) ++ placed_texts edits inserts

-- the inserts of edits that are at most so deep, the deepest first
abbrev pub deepest_from : ℕ → List Placed → List Placed
deepest_from zero inserts = filter (λ p. p.depth == zero) inserts
deepest_from (suc d) inserts = filter (λ p. p.depth == suc d) inserts ++ deepest_from d inserts
