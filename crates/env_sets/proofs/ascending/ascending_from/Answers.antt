use Rattle.std.proofs.Common.{arith}
use Rattle.env_sets.specs.Ascending.{IsInOrder}
use Rattle.env_sets.proofs.AscendingLemmas.{none_in_order}
use Rattle.env_sets.proofs.ascending.ascending_from.Goals as goal

pub returns-then-count-lt-MANY : goal.returns-then-count-lt-MANY
returns-then-count-lt-MANY c = none_in_order _ _ (omega arith)

pub returns-then-count-from-lt-MANY : goal.returns-then-count-from-lt-MANY
returns-then-count-from-lt-MANY c = none_in_order _ _ (omega arith)

pub returns : goal.returns
unfolding IsInOrder
returns c = (c.loop-from.invariant.within, c.loop-from.invariant.ascend)
