use Rattle.std.proofs.Common.{sym, subst, arith}
use Rattle.env_sets.specs.Rising.{Rise}
use Rattle.env_sets.proofs.RunLemmas.{AllRise-at}
use Rattle.env_sets.proofs.runs.some_has.Goals as goal

pub has_in_order-requires : goal.has_in_order-requires
has_in_order-requires c =
    subst Rise (sym c.as_slice.ensures.items) (AllRise-at c.loop-run.run-index c.args.runs.now c.run-item.result c.requires (omega arith) c.run-item.is)
