-- What a page becomes after edits.
use Rattle.std.specs.Prelude.{ℕ, ◌≡◌, Bool, true, false, not, ◌||◌, cond, Option, None, Some, List, [], ◌∷◌}
use Rattle.std.specs.List.{list_any}
use Rattle.c_lexer.specs.Pieces.{TextPiece, text_of}
use Rattle.c_lexer.specs.Ids.{ids_of}
use Rattle.edit_marks.specs.declared.edit_conflict.edit.Edit.{Edit}
use Rattle.edit_unparse.specs.NextId.{free_id}
use Rattle.edit_unparse.specs.Output.{output_of}
use Rattle.rule_chain.specs.declared.rule_edits.texts.NewText.{NewText}

-- A text, the ids of its tokens, and an id such that neither it nor a larger one has been used in the file.
pub record Page : Type 0 where
  pub bytes : List ℕ
  pub ids : List ℕ
  pub next : ℕ

abbrev pub is_empty : {A : Type 0} → List A → Bool
is_empty [] = true
is_empty (x ∷ xs) = false

-- the edit isn't empty
abbrev pub changes : Edit → Bool
changes e = not (is_empty e.removed) || not (is_empty e.inserts)

abbrev pub is_edited : List Edit → Bool
is_edited edits = list_any changes edits

-- the page of pieces that have just been read
abbrev pub old_page : ℕ → List TextPiece → Page
old_page next pieces = record { bytes = text_of pieces; ids = ids_of pieces; next = next }

-- the page of pieces that edits have made
abbrev pub page_of : ℕ → List TextPiece → Page
page_of next pieces = record { bytes = text_of pieces; ids = ids_of pieces; next = free_id next (ids_of pieces) }

-- the page after the edits: the old one, if none of them changes anything
abbrev pub page_after : ℕ → List TextPiece → List Edit → Page
page_after next pieces edits = cond (is_edited edits) (page_of next (output_of pieces edits next)) (old_page next pieces)

abbrev pub page_in : NewText → Page
page_in t = record { bytes = t.bytes.items; ids = t.ids.items; next = t.next }

-- a new text if the edits change something
abbrev pub IsNew : ℕ → List TextPiece → List Edit → Option NewText → Type 0
IsNew next pieces edits None = is_edited edits ≡ false
IsNew next pieces edits (Some t) = (is_edited edits ≡ true) × (page_in t ≡ page_after next pieces edits)
