use Rattle.std.proofs.Common.{◌∙◌, refl, arith}
use Rattle.env_sets.specs.Sets.{entry_denotes}
use Rattle.env_sets.proofs.AscendingLemmas.{neither}
use Rattle.env_sets.proofs.LoopLemmas.{any_step}
use Rattle.env_sets.proofs.removed.count_at.Goals as goal

pub loop-i-preserved : goal.loop-i-preserved
loop-i-preserved c = λ env k.
    any_step (λ e. entry_denotes e env) c.args.entries.now c.loop-i.i c.index-entries-i.result (omega arith) c.index-entries-i.is
    ∙ neither _ _ (c.loop-i.invariant env k) (c.if-not-is_at.ensures refl env k)
