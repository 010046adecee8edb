-- Which faults edits meet, and what they leave if they meet none.
use Rattle.std.specs.Prelude.{ℕ, ◌≡◌, ◌<◌, ◌≤◌, Option, Some, List, length, slice_get}
use Rattle.c_lexer.specs.Pieces.{TextPiece, most_bytes}
use Rattle.c_lexer.specs.Ids.{ids_of}
use Rattle.edit_marks.specs.declared.edit_conflict.edit.Edit.{Edit}
use Rattle.edit_marks.specs.declared.edit_conflict.clash.Clash.{Clash}
use Rattle.edit_marks.specs.EditConflict.Clashes.{IsClash, IsFirstClash}
use Rattle.rule_chain.specs.declared.rule_edits.texts.NewText.{NewText}
use Rattle.rule_chain.specs.declared.rule_edits.fault.EditFault.{EditFault}
use Rattle.rule_chain.specs.declared.rule_edits.fault.EditFault.TheVariants.{Conflict, TooLong}
use Rattle.rule_chain.specs.RuleEdits.Pages.{page_after, IsNew}

-- no two clash, and the text that they make is not too long
pub record AreFine (next : ℕ) (pieces : List TextPiece) (edits : List Edit) : Type 0 where
  pub apart : (c : Clash) → IsClash edits c → ⊥
  pub short : length (page_after next pieces edits).bytes ≤ most_bytes

-- the edits meet no fault, and leave this
pub record Leaves (next : ℕ) (pieces : List TextPiece) (edits : List Edit) (left : Option NewText) : Type 0 where
  pub fine : AreFine next pieces edits
  pub new : IsNew next pieces edits left

-- the first two that clash, at the token with this id; or if none clash, the text that they make is too long
pub data IsEditFault (next : ℕ) (pieces : List TextPiece) (edits : List Edit) : EditFault → Type 0 where
  conflict : (c : Clash) (id : ℕ) (first second : Edit) → IsFirstClash edits c → slice_get (ids_of pieces) c.token ≡ Some id
      → slice_get edits c.first ≡ Some first → slice_get edits c.second ≡ Some second
      → IsEditFault next pieces edits (Conflict id first second)
  too_long : ((c : Clash) → IsClash edits c → ⊥) → most_bytes < length (page_after next pieces edits).bytes
      → IsEditFault next pieces edits TooLong
