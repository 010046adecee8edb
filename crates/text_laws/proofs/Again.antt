-- A text that fair edits produce is cut into as many tokens as it has ids.
use Rattle.std.proofs.Common.{◌≡◌, ℕ, Bool, true, false, cond, refl, sym, ap, ◌∙◌, List, length}
use Rattle.c_lexer.specs.Pieces.{TextPiece, text_of}
use Rattle.c_lexer.specs.Lexes.{Cuts, Lexes}
use Rattle.c_lexer.specs.Ids.{ids_of}
use Rattle.c_lexer.proofs.Once.{once}
use Rattle.edit_marks.specs.declared.edit_conflict.edit.Edit.{Edit}
use Rattle.edit_unparse.specs.Fair.{Fair}
use Rattle.edit_unparse.specs.Output.{output_of}
use Rattle.edit_unparse.proofs.Again.{reads_again}
use Rattle.rule_chain.specs.RuleEdits.Pages as pages
use Rattle.text_laws.proofs.BareCount.{bare_count}

old_counted : (pieces again : List TextPiece) → Cuts pieces → Lexes (text_of pieces) again → length (ids_of again) ≡ length (ids_of pieces)
old_counted pieces again cuts lexes =
    sym (bare_count again) ∙ ap (λ (ps : List TextPiece). length (ids_of ps)) (once again pieces lexes.1.0 cuts lexes.0) ∙ bare_count pieces

counted_by : (b : Bool) (next : ℕ) (pieces : List TextPiece) (edits : List Edit) (again : List TextPiece) → Cuts pieces → Fair pieces edits
    → Lexes (cond b (pages.page_of next (output_of pieces edits next)) (pages.old_page next pieces)).bytes again
    → length (ids_of again) ≡ length (cond b (pages.page_of next (output_of pieces edits next)) (pages.old_page next pieces)).ids
counted_by true next pieces edits again cuts fair lexes =
    (reads_again pieces edits next (text_of (output_of pieces edits next)) (ids_of (output_of pieces edits next)) cuts fair refl refl).counted again lexes
counted_by false next pieces edits again cuts fair lexes = old_counted pieces again cuts lexes

pub page_counted : (next : ℕ) (pieces : List TextPiece) (edits : List Edit) (again : List TextPiece) → Cuts pieces → Fair pieces edits
    → Lexes (pages.page_after next pieces edits).bytes again → length (ids_of again) ≡ length (pages.page_after next pieces edits).ids
page_counted next pieces edits again cuts fair lexes = counted_by (pages.is_edited edits) next pieces edits again cuts fair lexes
