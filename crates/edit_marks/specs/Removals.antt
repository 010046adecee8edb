-- What an alignment removes.
use Rattle.std.specs.Prelude.{ℕ, Bool, true, false, List, [], ◌∷◌, ◌++◌, slice_get, Option, None, Some, if◌then◌else◌}
use Rattle.smpl_patch.specs.declared.pattern.Mark.{Mark}
use Rattle.smpl_patch.specs.declared.pattern.Mark.TheVariants.{Context, Minus, Star}
use Rattle.smpl_patch.specs.declared.pattern.PatToken.{PatToken}
use Rattle.edit_marks.specs.declared.removals.Aligned.{Aligned}

abbrev pub is_minus : Mark → Bool
is_minus Context = false
is_minus Minus = true
is_minus Star = false

abbrev pub has_minus : Option PatToken → Bool
has_minus None = false
has_minus (Some t) = is_minus t.mark

abbrev pub is_minus_at : List PatToken → ℕ → Bool
is_minus_at tokens number = has_minus (slice_get tokens number)

-- the file's tokens that are aligned with minus tokens
abbrev pub minus_tokens : List PatToken → List Aligned → List ℕ
minus_tokens tokens [] = []
minus_tokens tokens (p ∷ pairs) = (if is_minus_at tokens p.pattern then p.files else []) ++ minus_tokens tokens pairs
