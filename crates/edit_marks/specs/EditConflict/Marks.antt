-- What edits do, as a list of acts at tokens.
use Rattle.std.specs.Prelude.{ℕ, ◌≡◌, ◌+◌, ◌==◌, Bool, List, [], ◌∷◌, ◌++◌, filter}
use Rattle.std.specs.List.Sorted.{IsNonDecreasingBy}
use Rattle.edit_marks.specs.declared.edit_conflict.edit.Insert.{Insert}
use Rattle.edit_marks.specs.declared.edit_conflict.edit.Edit.{Edit}
use Rattle.edit_marks.specs.declared.edit_conflict.mark.Act.TheVariants as act
use Rattle.edit_marks.specs.declared.edit_conflict.mark.Mark.{Mark}

abbrev pub removal_marks : ℕ → List ℕ → List Mark
removal_marks edit [] = []
removal_marks edit (token ∷ tokens) = record { token = token; edit = edit; act = act.Remove } ∷ removal_marks edit tokens

-- the inserts, of which the first has this number
abbrev pub insert_marks : ℕ → ℕ → List Insert → List Mark
insert_marks edit number [] = []
insert_marks edit number (i ∷ inserts) = record { token = i.token; edit = edit; act = act.Insert i.side i.many number } ∷ insert_marks edit (number + 1) inserts

-- the acts of the edit with this number
abbrev pub marks_of : ℕ → Edit → List Mark
marks_of edit e = removal_marks edit e.removed ++ insert_marks edit 0 e.inserts

-- the acts of edits, of which the first has this number
abbrev pub marks_from : ℕ → List Edit → List Mark
marks_from number [] = []
marks_from number (e ∷ edits) = marks_of number e ++ marks_from (number + 1) edits

abbrev pub is_at : ℕ → Mark → Bool
is_at token m = m.token == token

-- all acts of the edits, sorted by token, and at each token in the order of the edits
pub record AreMarks (edits : List Edit) (marks : List Mark) : Type 0 where
  pub rise : IsNonDecreasingBy (λ m. m.token) marks
  pub all : (token : ℕ) → filter (is_at token) marks ≡ filter (is_at token) (marks_from 0 edits)
