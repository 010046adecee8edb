use Rattle.std.proofs.Common.{◌-◌, sym, ap, ◌∙◌, arith}
use Rattle.std.specs.Ordering.{is_lt}
use Rattle.env_sets.proofs.RisingLemmas.{Rise-more_at}
use Rattle.env_sets.proofs.values.is_rising.Goals as goal

pub loop-i-preserved : goal.loop-i-preserved
loop-i-preserved c =
    Rise-more_at c.args.items.now (c.loop-i.i - 1) c.loop-i.i c.index-items-i.result c.index-items-i-in-loop-i.result
    (omega (arith, c.loop-i.auto.i)) c.loop-i-test.true c.index-items-i.is c.index-items-i-in-loop-i.is
    (ap is_lt (sym c.value_order.ensures.value) ∙ sym c.if-not-is_lt.ensures) c.loop-i.invariant
