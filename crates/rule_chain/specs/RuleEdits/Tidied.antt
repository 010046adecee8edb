-- What edits leave where the text is tidied, and which faults they meet.
use Rattle.std.specs.Prelude.{ℕ, ◌≡◌, ◌<◌, ◌≤◌, Bool, true, false, Option, None, Some, List, length, slice_get}
use Rattle.c_lexer.specs.Pieces.{TextPiece, most_bytes}
use Rattle.c_lexer.specs.Ids.{ids_of}
use Rattle.cpp_lines.specs.declared.reading.Item.{Item}
use Rattle.smpl_patch.specs.declared.rule.Rule.{Rule}
use Rattle.smpl_patch.specs.declared.witness.RuleWitness.{RuleWitness}
use Rattle.edit_marks.specs.declared.edit_conflict.edit.Edit.{Edit}
use Rattle.edit_marks.specs.declared.edit_conflict.clash.Clash.{Clash}
use Rattle.edit_marks.specs.declared.tidy.walk.TidiedEdits.{TidiedEdits}
use Rattle.edit_marks.specs.EditConflict.Clashes.{IsClash, IsFirstClash}
use Rattle.edit_marks.specs.EditWalk.Edited.{AreEdits}
use Rattle.edit_marks.specs.Tidy.Walk.{AreTidyEdits}
use Rattle.edit_unparse.specs.Tidy.Made.{frame_of}
use Rattle.edit_unparse.specs.Tidy.Text.{text_after}
use Rattle.edit_bodies.specs.declared.lay.TidyLayout.{TidyLayout}
use Rattle.edit_bodies.specs.Laid.{IsBroken, IsLaidOut}
use Rattle.rule_chain.specs.declared.rule_edits.texts.NewText.{NewText}
use Rattle.rule_chain.specs.declared.rule_edits.fault.EditFault.{EditFault}
use Rattle.rule_chain.specs.declared.rule_edits.fault.EditFault.TheVariants.{Body, Conflict, TooLong}
use Rattle.rule_chain.specs.RuleEdits.Nodes.{nodes_of}
use Rattle.rule_chain.specs.RuleEdits.Pages.{Page, is_edited, old_page, page_of, page_in}
use Rattle.rule_chain.specs.RuleEdits.Faults.{IsEditFault, Leaves}

abbrev pub DoNotClash : List Edit → Type 0
DoNotClash edits = (c : Clash) → IsClash edits c → ⊥

-- the page of the text that is tidied under a layout
abbrev pub tidied_page : ℕ → List TextPiece → List Edit → TidyLayout → Page
tidied_page next pieces edits laid = page_of next (text_after (Some (frame_of laid.layout)) pieces edits next)

-- The page after the edits: the old one, if none of them changes anything; else that of the tidied text, in which the row of each
-- body is a list of statements.
pub data IsTidyPage (next : ℕ) (pieces : List TextPiece) (items : List Item) (made : TidiedEdits) : Page → Type 0 where
  stays : is_edited made.list ≡ false → IsTidyPage next pieces items made (old_page next pieces)
  changes : (laid : TidyLayout) → is_edited made.list ≡ true → IsLaidOut pieces items made laid
      → IsTidyPage next pieces items made (tidied_page next pieces made.list laid)

-- no two clash, this is the page after them, and its text is not too long
pub record AreTidyFine (next : ℕ) (pieces : List TextPiece) (items : List Item) (made : TidiedEdits) (page : Page) : Type 0 where
  pub apart : DoNotClash made.list
  pub after : IsTidyPage next pieces items made page
  pub short : length page.bytes ≤ most_bytes

-- a new text with this page if the edits change something
abbrev pub IsNewPage : (edited : Bool) → Page → Option NewText → Type 0
IsNewPage edited page None = edited ≡ false
IsNewPage edited page (Some t) = (edited ≡ true) × (page_in t ≡ page)

-- the edits meet no fault, and leave this
pub record TidyLeaves (next : ℕ) (pieces : List TextPiece) (items : List Item) (made : TidiedEdits) (left : Option NewText) : Type 0 where
  pub page : Page
  pub fine : AreTidyFine next pieces items made page
  pub new : IsNewPage (is_edited made.list) page left

-- The first two that clash, at the token with this id. Or if none clash and something changes, what stands in the place of some
-- body is no list of statements, and this is the id of the last token of such a body, the least. Or if neither, the text is too
-- long.
pub data IsTidyEditFault (next : ℕ) (pieces : List TextPiece) (items : List Item) (made : TidiedEdits) : EditFault → Type 0 where
  conflict : (c : Clash) (id : ℕ) (first second : Edit) → IsFirstClash made.list c → slice_get (ids_of pieces) c.token ≡ Some id
      → slice_get made.list c.first ≡ Some first → slice_get made.list c.second ≡ Some second
      → IsTidyEditFault next pieces items made (Conflict id first second)
  body : (token id : ℕ) → DoNotClash made.list → is_edited made.list ≡ true → IsBroken pieces items made token
      → slice_get (ids_of pieces) token ≡ Some id → IsTidyEditFault next pieces items made (Body id)
  too_long : (page : Page) → DoNotClash made.list → IsTidyPage next pieces items made page → most_bytes < length page.bytes
      → IsTidyEditFault next pieces items made TooLong

-- what the edits of witnesses leave, plain or tidied
abbrev pub LeavesBy : (tidy : Bool) → List RuleWitness → Rule → List Item → ℕ → List TextPiece → Option NewText → Type 0
LeavesBy false found rule items next pieces left =
    (edits : List Edit) × (AreEdits found rule items (nodes_of rule items) pieces edits × Leaves next pieces edits left)
LeavesBy true found rule items next pieces left =
    (made : TidiedEdits) × (AreTidyEdits found rule items (nodes_of rule items) pieces made × TidyLeaves next pieces items made left)

-- the fault that they meet
abbrev pub IsEditFaultBy : (tidy : Bool) → List RuleWitness → Rule → List Item → ℕ → List TextPiece → EditFault → Type 0
IsEditFaultBy false found rule items next pieces fault =
    (edits : List Edit) × (AreEdits found rule items (nodes_of rule items) pieces edits × IsEditFault next pieces edits fault)
IsEditFaultBy true found rule items next pieces fault =
    (made : TidiedEdits) × (AreTidyEdits found rule items (nodes_of rule items) pieces made × IsTidyEditFault next pieces items made fault)
