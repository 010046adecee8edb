-- What edits leave if no two of them clash.
use Rattle.std.proofs.Common.{◌≡◌, ◌≤◌, ◌<◌, ℕ, true, false, cond, Option, Some, None, refl, sym, ap, subst, ◌∙◌, inl, inr, ◌⊎◌, List, length}
use Rattle.std.specs.Prelude.{IfNone}
use Rattle.c_lexer.specs.Pieces.{TextPiece, text_of}
use Rattle.edit_marks.specs.declared.edit_conflict.edit.Edit.{Edit}
use Rattle.edit_marks.specs.declared.edit_conflict.clash.Clash.{Clash}
use Rattle.edit_marks.specs.EditConflict.Clashes.{IsClash}
use Rattle.edit_unparse.specs.Output.{output_of}
use Rattle.edit_marks.specs.EditWalk.Edited.{AreEdits}
use Rattle.cpp_lines.specs.declared.reading.Item.{Item}
use Rattle.edit_marks.specs.declared.edit_walk.nodes.ItemNodes.{ItemNodes}
use Rattle.smpl_patch.specs.declared.rule.Rule.{Rule}
use Rattle.smpl_patch.specs.declared.witness.RuleWitness.{RuleWitness}
use Rattle.rule_chain.specs.declared.rule_edits.texts.NewText.{NewText}
use Rattle.rule_chain.specs.declared.rule_edits.fault.EditFault.{EditFault}
use Rattle.rule_chain.specs.declared.rule_edits.fault.EditFault.TheVariants as fault
use Rattle.rule_chain.specs.RuleEdits.Pages.{Page, is_edited, page_of, old_page, page_after, page_in}
use Rattle.rule_chain.specs.RuleEdits.Faults.{Leaves, IsEditFault}
use Rattle.rule_chain.specs.RuleEdits.Faults.IsEditFault.{too_long}

pub apart_of : {P : Type 0} (r : Option Clash) → ((c : Clash) → r ≡ Some c → ⊥) → IfNone r P → P
apart_of None never h = h
apart_of (Some c) never h = absurd (never c refl)

module _ (next : ℕ) (pieces : List TextPiece) (edits : List Edit) (apart : (c : Clash) → IsClash edits c → ⊥) where
  pub leaves_old : is_edited edits ≡ false → length (text_of pieces) ≤ 16777216 → Leaves next pieces edits None
  leaves_old e short =
      let after : page_after next pieces edits ≡ old_page next pieces =
      ap (λ b. cond b (page_of next (output_of pieces edits next)) (old_page next pieces)) e in
      record { fine = record { apart = apart; short = subst (λ (p : Page). length p.bytes ≤ 16777216) (sym after) short }; new = e }

  pub leaves_new : (t : NewText) → is_edited edits ≡ true → page_in t ≡ page_of next (output_of pieces edits next)
      → length t.bytes.items ≤ 16777216 → Leaves next pieces edits (Some t)
  leaves_new t e is short =
      let after : page_in t ≡ page_after next pieces edits =
      is ∙ ap (λ b. cond b (page_of next (output_of pieces edits next)) (old_page next pieces)) (sym e) in
      record { fine = record { apart = apart; short = subst (λ (p : Page). length p.bytes ≤ 16777216) after short }; new = (e, after) }

  pub long_fault : (f : EditFault) → is_edited edits ≡ true
      → (f ≡ fault.NoMemory) ⊎ ((f ≡ fault.TooLong) × (16777216 < length (text_of (output_of pieces edits next))))
      → (f ≡ fault.NoMemory) ⊎ IsEditFault next pieces edits f
  long_fault f e (inl none) = inl none
  long_fault f e (inr long) =
      let after : page_after next pieces edits ≡ page_of next (output_of pieces edits next) =
      ap (λ b. cond b (page_of next (output_of pieces edits next)) (old_page next pieces)) e in
      inr (subst (IsEditFault next pieces edits) (sym long.0)
      (too_long apart (subst (λ (p : Page). 16777216 < length p.bytes) (sym after) long.1)))

-- the same edits over lists that are equal
pub are_edits : (found : List RuleWitness) (rule : Rule) (is items : List Item) (ks nodes : List ItemNodes) (ps pieces : List TextPiece)
    (edits : List Edit) → is ≡ items → ks ≡ nodes → ps ≡ pieces → AreEdits found rule is ks ps edits → AreEdits found rule items nodes pieces edits
are_edits found rule is items ks nodes ps pieces edits a k p h =
    subst (λ (x : List Item). AreEdits found rule x nodes pieces edits) a
    (subst (λ (x : List ItemNodes). AreEdits found rule is x pieces edits) k
    (subst (λ (x : List TextPiece). AreEdits found rule is ks x edits) p h))
