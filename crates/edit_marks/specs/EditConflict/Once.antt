-- Edits, each once.
use Rattle.std.specs.Prelude.{◌≡◌, ◌<◌, ℕ, Some, List, [], ◌∷◌, ◌++◌, fold, slice_get, if◌then◌else◌}
use Rattle.std.specs.List.{list_any, position_or_len}
use Rattle.edit_marks.specs.declared.edit_conflict.edit.Edit.{Edit}
use Rattle.edit_marks.specs.EditConflict.Same.{same_edit}

-- the edits, with this one appended if none of them is equal to it
abbrev pub with_edit : List Edit → Edit → List Edit
with_edit edits e = if list_any (same_edit e) edits then edits else edits ++ e ∷ []

-- the edits without repeats: of equal edits the first is kept
abbrev pub once : List Edit → List Edit
once edits = fold with_edit [] edits

-- the number of the first edit of a list that is equal to this one
abbrev pub number_in : List Edit → Edit → ℕ
number_in edits e = position_or_len (same_edit e) edits

-- no two are equal
abbrev pub Differ : List Edit → Type 0
Differ edits = (i j : ℕ) (a b : Edit) → i < j → slice_get edits i ≡ Some a → slice_get edits j ≡ Some b → a ≡ b → ⊥
