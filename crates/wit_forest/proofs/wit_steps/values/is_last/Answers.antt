use Rattle.std.proofs.Common.{◌-◌, sym, ◌∙◌, arith, length}
use Rattle.env_sets.proofs.LoopLemmas.{known_value}
use Rattle.env_sets.proofs.RisingLemmas.{some_items}
use Rattle.wit_forest.proofs.wit_steps.values.is_last.Goals as goal

pub returns : goal.returns
returns c = λ h z.
    let some = some_items (length c.args.values.now) c.if-is_empty.ensures in
    known_value c.args.values.now (length c.args.values.now - 1) c.index-values-values.result c.args.v.now z
    (omega (arith, some)) c.index-values-values.is (sym c.same_value.ensures.value ∙ h)
