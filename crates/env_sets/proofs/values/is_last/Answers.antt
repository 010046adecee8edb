use Rattle.std.proofs.Common.{◌-◌, sym, ◌∙◌, arith, length}
use Rattle.env_sets.proofs.LoopLemmas.{known_value}
use Rattle.env_sets.proofs.RisingLemmas.{Rise-push, before_sorted, empty_push, below, no_items, some_items}
use Rattle.env_sets.proofs.values.is_last.Goals as goal

pub returns-then-is_empty-clause-rise : goal.returns-then-is_empty-clause-rise
returns-then-is_empty-clause-rise c = λ _ _ _. empty_push c.args.kept.now c.args.v.now (no_items (length c.args.kept.now) c.if-is_empty.ensures)

pub returns-clause-known : goal.returns-clause-known
returns-clause-known c = λ h z.
    let some = some_items (length c.args.kept.now) c.if-is_empty.ensures in
    known_value c.args.kept.now (length c.args.kept.now - 1) c.index-kept-kept.result c.args.v.now z
    (omega (arith, some)) c.index-kept-kept.is (sym c.same_value.ensures.value ∙ h)

pub returns-clause-rise : goal.returns-clause-rise
returns-clause-rise c = λ h none rise.
    let some = some_items (length c.args.kept.now) c.if-is_empty.ensures in
    let last = length c.args.kept.now - 1 in
    Rise-push c.args.kept.now c.index-kept-kept.result c.args.v.now last rise (omega (arith, some)) c.index-kept-kept.is
    (before_sorted c.index-kept-kept.result c.args.v.now (sym c.same_value.ensures.value ∙ h)
    (below c.args.kept.now last c.index-kept-kept.result c.args.v.now none (omega (arith, some)) c.index-kept-kept.is))
