use Rattle.std.proofs.Common.{◌∙◌, sym, arith}
use Rattle.smpl_terms.specs.Environments.{total}
use Rattle.env_sets.proofs.AscendingLemmas.{is_after}
use Rattle.env_sets.proofs.BlockLemmas.{first_is_after}
use Rattle.env_sets.proofs.blocks.is_behind.Goals as goal

pub returns-in-len1-up : goal.returns-in-len1-up
returns-in-len1-up c = λ h es.
    first_is_after c.args.block.now es c.first-item.result (total c.args.env.now) (omega (arith, c.in-len1-up.len_at_least)) c.first-item.is
    (is_after c.first-item.result c.pairs.result.now
    (total c.args.env.now) c.entry_side.result c.pairs.ensures.pairs c.entry_side.ensures (sym h ∙ c.is_gt.ensures))
