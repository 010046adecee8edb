use Rattle.std.proofs.Common.{◌∙◌, sym, arith}
use Rattle.std.proofs.lemmas.Bool.Decides.{nat_tests}
use Rattle.smpl_terms.specs.Environments.{total}
use Rattle.env_sets.proofs.AscendingLemmas.{is_before}
use Rattle.env_sets.proofs.BlockLemmas.{last_is_before}
use Rattle.env_sets.proofs.blocks.ends_before.Goals as goal

pub returns : goal.returns
returns c = λ h es.
    last_is_before es c.args.block.now _ c.index-block-block.result (total c.args.env.now) (grind (arith, nat_tests)) c.index-block-block.is
    (is_before c.index-block-block.result c.pairs.result.now
    (total c.args.env.now) c.entry_side.result c.pairs.ensures.pairs c.entry_side.ensures (sym h ∙ c.is_lt.ensures))
