use Rattle.std.proofs.Common.{sym, ap, ◌∙◌, subst, drop}
use Rattle.env_sets.specs.Ascending.{Ascend}
use Rattle.env_sets.proofs.AscendingLemmas.{in_order_ascend}
use Rattle.env_sets.proofs.BlockLemmas.{blocks_in_order}
use Rattle.env_sets.proofs.sets.EnvSet.in_blocks.Goals as goal

pub invariant_of-result : goal.invariant_of-result
invariant_of-result c =
    blocks_in_order c.in_ok-rest.rest
    (subst Ascend (sym (c.in_ok-rest.ensures ∙ c.in_ok-ascending.ensures.tail ∙ ap (drop c.ascending_from-from.result) (sym c.deref.ensures.value)))
    (in_order_ascend c.deref.result.now c.ascending_from-from.result c.ascending_from-from.ensures))
