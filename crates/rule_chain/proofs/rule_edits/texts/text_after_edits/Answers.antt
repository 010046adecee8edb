use Rattle.std.proofs.Common.{◌≡◌, ◌≤◌, ◌⊎◌, false, sym, ap, subst, ◌∙◌, inl, inr, List, Option, length, arith}
use Rattle.std.proofs.lemmas.Grind.{common_steps}
use Rattle.c_lexer.specs.Pieces.{TextPiece, text_of}
use Rattle.std.proofs.lemmas.Result.{IfOk-weaker, IfErr-weaker}
use Rattle.edit_marks.specs.declared.edit_conflict.edit.Edit.{Edit}
use Rattle.edit_marks.specs.EditWalk.Edited.{AreEdits}
use Rattle.rule_chain.specs.declared.rule_edits.texts.NewText.{NewText}
use Rattle.rule_chain.specs.RuleEdits.Nodes.{nodes_of}
use Rattle.rule_chain.specs.RuleEdits.Faults.{Leaves, IsEditFault}
use Rattle.rule_chain.specs.declared.rule_edits.fault.EditFault.TheVariants as fault
use Rattle.rule_chain.proofs.RuleEdits.LeaveLemmas.{are_edits}
use Rattle.rule_chain.proofs.RuleEdits.TreeLemmas.{nothing_leaves}
use Rattle.rule_chain.proofs.rule_edits.texts.text_after_edits.Goals as goal

pub returns-then-not-has_tree-clause-text : goal.returns-then-not-has_tree-clause-text
returns-then-not-has_tree-clause-text c =
    let found = c.args.found.now in
    let rule = c.args.rule.now in
    let items = c.args.file.now.items in
    let pieces = c.args.file.now.pieces in
    let e : c.has_tree.result ≡ false = grind (arith, common_steps) in
    let short : length (text_of pieces) ≤ 16777216 =
    subst (λ (ps : List TextPiece). length (text_of ps) ≤ 16777216) c.lexed.ensures.lexed c.nothing_new.ensures.short in
    subst (λ (left : Option NewText). (edits : List Edit)
    × (AreEdits found rule items (nodes_of rule items) pieces edits × Leaves c.args.next pieces edits left))
    (sym c.nothing_new.ensures.none)
    (nothing_leaves found rule items (nodes_of rule items) c.args.next pieces (sym c.has_tree.ensures ∙ e) short)

pub returns-clause-text : goal.returns-clause-text
returns-clause-text c =
    let found = c.args.found.now in
    let rule = c.args.rule.now in
    let items = c.args.file.now.items in
    let pieces = c.args.file.now.pieces in
    let list = c.in_ok-list.list in
    let are : AreEdits found rule items (nodes_of rule items) pieces list =
    are_edits found rule c.items.result.now items c.as_slice.result.now (nodes_of rule items) c.lexed-2.result.now pieces list
    c.items.ensures.items
    (c.as_slice.ensures.value ∙ c.in_ok-nodes.ensures.nodes ∙ ap (nodes_of rule) (c.make_all.ensures.items ∙ c.requires.items))
    c.lexed-2.ensures.lexed
    c.in_ok-list.ensures.edits in
    IfOk-weaker c.text_after.result (λ left. Leaves c.args.next c.lexed-3.result.now list left)
    (λ left. (edits : List Edit) × (AreEdits found rule items (nodes_of rule items) pieces edits × Leaves c.args.next pieces edits left))
    (λ left h. (list, (are, subst (λ ps. Leaves c.args.next ps list left) c.lexed-3.ensures.lexed h))) c.text_after.ensures.text

pub returns-clause-fault : goal.returns-clause-fault
returns-clause-fault c =
    let found = c.args.found.now in
    let rule = c.args.rule.now in
    let items = c.args.file.now.items in
    let pieces = c.args.file.now.pieces in
    let list = c.in_ok-list.list in
    let are : AreEdits found rule items (nodes_of rule items) pieces list =
    are_edits found rule c.items.result.now items c.as_slice.result.now (nodes_of rule items) c.lexed-2.result.now pieces list
    c.items.ensures.items
    (c.as_slice.ensures.value ∙ c.in_ok-nodes.ensures.nodes ∙ ap (nodes_of rule) (c.make_all.ensures.items ∙ c.requires.items))
    c.lexed-2.ensures.lexed
    c.in_ok-list.ensures.edits in
    IfErr-weaker c.text_after.result (λ f. (f ≡ fault.NoMemory) ⊎ IsEditFault c.args.next c.lexed-3.result.now list f)
    (λ f. (f ≡ fault.NoMemory) ⊎ ((edits : List Edit)
    × (AreEdits found rule items (nodes_of rule items) pieces edits × IsEditFault c.args.next pieces edits f)))
    (λ f h. elim h [
      | inl none ↦ inl none
      | inr met ↦ inr (list, (are, subst (λ ps. IsEditFault c.args.next ps list f) c.lexed-3.ensures.lexed met))
    ]) c.text_after.ensures.fault
