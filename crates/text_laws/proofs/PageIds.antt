-- The ids of the page that edits leave.
use Rattle.std.proofs.Common.{◌≤◌, ◌<◌, ◌+◌, ℕ, Bool, true, false, cond, arith, List, length}
use Rattle.std.specs.Prelude.{All}
use Rattle.c_lexer.specs.Pieces.{TextPiece, text_of}
use Rattle.c_lexer.specs.Lexes.{Cuts}
use Rattle.c_lexer.specs.Ids.{ids_of}
use Rattle.edit_marks.specs.declared.edit_conflict.edit.Edit.{Edit}
use Rattle.edit_unparse.specs.Output.{output_of}
use Rattle.rule_chain.specs.RuleEdits.Pages as pages
use Rattle.text_laws.specs.OutputLaws.Differ.{AllDiffer}
use Rattle.text_laws.proofs.OutputLaws.Filled.{pieces_few, output_few, fresh_few}
use Rattle.text_laws.proofs.OutputLaws.DifferentIds.{output_apart}

ids_by : (b : Bool) (next : ℕ) (pieces out : List TextPiece) → length (ids_of pieces) ≤ length (text_of pieces) → length (ids_of out) ≤ length (text_of out)
    → length (cond b (pages.page_of next out) (pages.old_page next pieces)).ids ≤ length (cond b (pages.page_of next out) (pages.old_page next pieces)).bytes
ids_by true next pieces out h k = k
ids_by false next pieces out h k = h

pub page_few : (next : ℕ) (pieces : List TextPiece) (edits : List Edit) → Cuts pieces
    → length (pages.page_after next pieces edits).ids ≤ length (pages.page_after next pieces edits).bytes
page_few next pieces edits cuts =
    ids_by (pages.is_edited edits) next pieces (output_of pieces edits next) (pieces_few pieces cuts) (output_few pieces edits next cuts)

next_by : (b : Bool) (next : ℕ) (pieces out : List TextPiece)
    → (cond b (pages.page_of next out) (pages.old_page next pieces)).next ≤ next + length (cond b (pages.page_of next out) (pages.old_page next pieces)).ids
next_by true next pieces out = fresh_few next (ids_of out)
next_by false next pieces out = omega arith

pub page_next : (next : ℕ) (pieces : List TextPiece) (edits : List Edit)
    → (pages.page_after next pieces edits).next ≤ next + length (pages.page_after next pieces edits).ids
page_next next pieces edits = next_by (pages.is_edited edits) next pieces (output_of pieces edits next)

apart_by : (b : Bool) (next : ℕ) (pieces out : List TextPiece) → AllDiffer (ids_of pieces) → AllDiffer (ids_of out)
    → AllDiffer (cond b (pages.page_of next out) (pages.old_page next pieces)).ids
apart_by true next pieces out h k = k
apart_by false next pieces out h k = h

pub page_apart : (next : ℕ) (pieces : List TextPiece) (edits : List Edit) → AllDiffer (ids_of pieces) → All (λ id. id < next) (ids_of pieces)
    → AllDiffer (pages.page_after next pieces edits).ids
page_apart next pieces edits h low = apart_by (pages.is_edited edits) next pieces (output_of pieces edits next) h (output_apart pieces edits next h low)
