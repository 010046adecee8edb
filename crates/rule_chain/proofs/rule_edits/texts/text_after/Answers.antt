use Rattle.std.proofs.Common.{◌≡◌, true, false, ap, sym, subst, ◌∙◌, arith}
use Rattle.std.proofs.lemmas.Grind.{common_steps}
use Rattle.rule_chain.specs.RuleEdits.Pages as of
use Rattle.rule_chain.specs.RuleEdits.Faults.{Leaves}
use Rattle.rule_chain.proofs.RuleEdits.LeaveLemmas.{apart_of, leaves_old, leaves_new, long_fault}
use Rattle.rule_chain.proofs.rule_edits.texts.text_after.Goals as goal

pub returns-then-not-is_edited-clause-text : goal.returns-then-not-is_edited-clause-text
returns-then-not-is_edited-clause-text c =
    let same : c.is_edited.result ≡ of.is_edited c.args.list = c.is_edited.ensures ∙ ap of.is_edited c.edits.ensures.edits in
    let e : of.is_edited c.args.list ≡ false = grind (arith, common_steps) in
    subst (Leaves c.args.next c.args.lexed.now c.args.list) (sym c.nothing_new.ensures.none)
    (leaves_old c.args.next c.args.lexed.now c.args.list (apart_of c.first_clash.result c.in_default.not-Some c.first_clash.ensures.none) e
    c.nothing_new.ensures.short)

pub returns-in-Ok-clause-text : goal.returns-in-Ok-clause-text
returns-in-Ok-clause-text c =
    let same : c.is_edited.result ≡ of.is_edited c.args.list = c.is_edited.ensures ∙ ap of.is_edited c.edits.ensures.edits in
    let e : of.is_edited c.args.list ≡ true = grind (arith, common_steps) in
    leaves_new c.args.next c.args.lexed.now c.args.list (apart_of c.first_clash.result c.in_default.not-Some c.first_clash.ensures.none)
    c.in-Ok.text e c.in-Ok.ensures.text c.in-Ok.ensures.short

pub returns-clause-fault : goal.returns-clause-fault
returns-clause-fault c =
    let same : c.is_edited.result ≡ of.is_edited c.args.list = c.is_edited.ensures ∙ ap of.is_edited c.edits.ensures.edits in
    let e : of.is_edited c.args.list ≡ true = grind (arith, common_steps) in
    long_fault c.args.next c.args.lexed.now c.args.list (apart_of c.first_clash.result c.in_default.not-Some c.first_clash.ensures.none)
    c.in-Err.fault e c.in-Err.ensures.fault
