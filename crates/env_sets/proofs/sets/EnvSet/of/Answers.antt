use Rattle.env_sets.proofs.BlockLemmas.{no_blocks_in_order}
use Rattle.env_sets.proofs.sets.EnvSet.of.Goals as goal

pub invariant_of-result : goal.invariant_of-result
invariant_of-result c = no_blocks_in_order _ c.empty.ensures.items
