-- Witnesses whose forests have no tree make no edits.
use Rattle.std.proofs.Common.{◌≡◌, ◌≤◌, ℕ, Bool, true, false, ◌||◌, not, None, refl, sym, ap, subst, ◌∙◌, List, [], ◌∷◌, ◌++◌, length}
use Rattle.std.specs.List.{list_any, flat_map, AllZip}
use Rattle.c_lexer.specs.Pieces.{TextPiece, text_of}
use Rattle.cpp_lines.specs.declared.reading.Item.{Item}
use Rattle.edit_marks.specs.declared.edit_walk.nodes.ItemNodes.{ItemNodes}
use Rattle.edit_marks.specs.declared.edit_conflict.edit.Edit.{Edit}
use Rattle.edit_marks.specs.EditConflict.Clashes.{IsClash}
use Rattle.edit_marks.specs.declared.edit_conflict.clash.Clash.{Clash}
use Rattle.edit_marks.specs.EditWalk.Edited.{IsEditAt, AreEdits}
use Rattle.edit_marks.specs.EditWalk.Touches.{Touched, touches_in, touches}
use Rattle.smpl_patch.specs.declared.rule.Rule.{Rule}
use Rattle.smpl_patch.specs.declared.witness.Witness.{Witness}
use Rattle.smpl_patch.specs.declared.witness.RuleWitness.{RuleWitness}
use Rattle.rule_chain.specs.RuleEdits.Pages.{is_empty}
use Rattle.rule_chain.specs.RuleEdits.Faults.{Leaves}
use Rattle.rule_chain.proofs.RuleEdits.LeaveLemmas.{leaves_old}

or_no_left : (a b : Bool) → (a || b) ≡ false → a ≡ false
or_no_left true b h = absurd (cc)
or_no_left false b h = refl

or_no_right : (a b : Bool) → (a || b) ≡ false → b ≡ false
or_no_right true b h = absurd (cc)
or_no_right false b h = h

no_tree : (fs : List Witness) → not (is_empty fs) ≡ false → fs ≡ []
no_tree [] h = refl
no_tree (f ∷ fs) h = absurd (cc)

pub no_touches : (found : List RuleWitness) → list_any (λ w. not (is_empty w.forest)) found ≡ false → touches found ≡ []
no_touches [] h = refl
no_touches (w ∷ ws) h =
    ap (λ fs. flat_map (touches_in w.item w.env) fs ++ touches ws) (no_tree w.forest (or_no_left _ _ h)) ∙ no_touches ws (or_no_right _ _ h)

no_edits : (found : List RuleWitness) (rule : Rule) (items : List Item) (nodes : List ItemNodes) (pieces : List TextPiece)
    → list_any (λ w. not (is_empty w.forest)) found ≡ false → AreEdits found rule items nodes pieces []
no_edits found rule items nodes pieces h = record {
  all = [];
  each = subst (λ (ts : List Touched). AllZip (IsEditAt rule items nodes pieces) ts []) (sym (no_touches found h)) tt;
  distinct = refl;
}

apart : (c : Clash) → IsClash [] c → ⊥
apart c h = let e = h.first_is in absurd (cc)

pub nothing_leaves : (found : List RuleWitness) (rule : Rule) (items : List Item) (nodes : List ItemNodes) (next : ℕ) (pieces : List TextPiece)
    → list_any (λ w. not (is_empty w.forest)) found ≡ false → length (text_of pieces) ≤ 16777216
    → (edits : List Edit) × (AreEdits found rule items nodes pieces edits × Leaves next pieces edits None)
nothing_leaves found rule items nodes next pieces h short =
    ([], (no_edits found rule items nodes pieces h, leaves_old next pieces [] apart refl short))
