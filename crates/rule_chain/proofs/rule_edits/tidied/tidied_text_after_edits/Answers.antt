use Rattle.std.proofs.Common.{◌≡◌, ◌⊎◌, true, inl, inr}
use Rattle.std.proofs.lemmas.Result.{IfOk-weaker, IfErr-weaker}
use Rattle.rule_chain.specs.RuleEdits.Nodes.{nodes_of}
use Rattle.rule_chain.specs.RuleEdits.Tidied.{IsEditFaultBy, IsTidyEditFault, LeavesBy, TidyLeaves}
use Rattle.rule_chain.specs.declared.rule_edits.fault.EditFault.TheVariants as fault
use Rattle.rule_chain.proofs.RuleEdits.BodyLemmas.{leaves_within}
use Rattle.rule_chain.proofs.rule_edits.tidied.tidied_text_after_edits.Goals as goal

pub text_after-requires-clause-own : goal.text_after-requires-clause-own
text_after-requires-clause-own c =
    leaves_within c.args.found.now c.args.rule.now c.args.file.now.items (nodes_of c.args.rule.now c.args.file.now.items) c.args.file.now.pieces
    c.in_ok-made.made c.in_ok-made.ensures.edits

pub returns-clause-text : goal.returns-clause-text
returns-clause-text c =
    let pieces = c.args.file.now.pieces in
    let items = c.args.file.now.items in
    let made = c.in_ok-made.made in
    IfOk-weaker c.text_after.result (TidyLeaves c.args.next pieces items made) (LeavesBy true c.args.found.now c.args.rule.now items c.args.next pieces)
    (λ left h. (made, (c.in_ok-made.ensures.edits, h))) c.text_after.ensures.text

pub returns-clause-fault : goal.returns-clause-fault
returns-clause-fault c =
    let pieces = c.args.file.now.pieces in
    let items = c.args.file.now.items in
    let made = c.in_ok-made.made in
    IfErr-weaker c.text_after.result (λ f. (f ≡ fault.NoMemory) ⊎ IsTidyEditFault c.args.next pieces items made f)
    (λ f. (f ≡ fault.NoMemory) ⊎ IsEditFaultBy true c.args.found.now c.args.rule.now items c.args.next pieces f)
    (λ f h. elim h [
      | inl none ↦ inl none
      | inr met ↦ inr (made, (c.in_ok-made.ensures.edits, met))
    ]) c.text_after.ensures.fault
