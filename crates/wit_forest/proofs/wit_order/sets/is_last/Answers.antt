use Rattle.std.proofs.Common.{◌≡◌, ◌-◌, false, true, sym, ap, ◌∙◌, arith, length}
use Rattle.std.specs.Ordering.{is_eq}
use Rattle.wit_forest.specs.WitOrder.Order.{witness_order}
use Rattle.wit_forest.proofs.WitOrder.SameLaws.{is_eq-witness_order}
use Rattle.wit_forest.proofs.WitOrder.RiseLemmas.{Rise-push, before_sorted, empty_push, below, no_items, some_items, known_tree}
use Rattle.wit_forest.proofs.wit_order.sets.is_last.Goals as goal

pub returns-then-is_empty-clause-rise : goal.returns-then-is_empty-clause-rise
returns-then-is_empty-clause-rise c = λ _ _ _. empty_push c.args.decls.now c.args.kept.now c.args.w.now
    (no_items (length c.args.kept.now) c.if-is_empty.ensures)

pub returns-clause-known : goal.returns-clause-known
returns-clause-known c = λ h z.
    let some = some_items (length c.args.kept.now) c.if-is_empty.ensures in
    let last = c.index-kept-kept.result in
    let equal : is_eq (witness_order c.args.decls.now last c.args.w.now) ≡ true = ap is_eq (sym c.witness_order.ensures.value) ∙ sym c.is_eq.ensures ∙ h in
    known_tree c.args.kept.now (length c.args.kept.now - 1) last c.args.w.now z (omega (arith, some)) c.index-kept-kept.is
    (sym (is_eq-witness_order c.args.decls.now last c.args.w.now) ∙ equal)

pub returns-clause-rise : goal.returns-clause-rise
returns-clause-rise c = λ h none rise.
    let some = some_items (length c.args.kept.now) c.if-is_empty.ensures in
    let last = c.index-kept-kept.result in
    let at = length c.args.kept.now - 1 in
    let apart : is_eq (witness_order c.args.decls.now last c.args.w.now) ≡ false = ap is_eq (sym c.witness_order.ensures.value) ∙ sym c.is_eq.ensures ∙ h in
    Rise-push c.args.decls.now c.args.kept.now last c.args.w.now at rise (omega (arith, some)) c.index-kept-kept.is
    (before_sorted c.args.decls.now last c.args.w.now apart
    (below c.args.decls.now c.args.kept.now at last c.args.w.now none (omega (arith, some)) c.index-kept-kept.is))
