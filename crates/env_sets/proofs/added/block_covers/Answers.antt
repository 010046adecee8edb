use Rattle.env_sets.proofs.AddedLemmas.{front_denotes}
use Rattle.env_sets.proofs.added.block_covers.Goals as goal

pub returns : goal.returns
returns c = λ h env k.
    front_denotes c.args.block.now c.split_at.result.0.now c.split_at.result.1.now env c.split_at.ensures.by_index.0 (c.last_covers.ensures h env k)
