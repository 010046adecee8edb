use Rattle.std.proofs.Common.{ap, sym, ◌∙◌, arith}
use Rattle.std.proofs.lemmas.Bool.Decides.{nat_tests}
use Rattle.env_sets.specs.Sets.{set_denotes}
use Rattle.env_sets.proofs.BlockLemmas.{some_block_holds}
use Rattle.env_sets.proofs.added.blocks_cover.Goals as goal

pub returns : goal.returns
returns c = λ h env k.
    some_block_holds c.args.blocks.now c.block_for-i.result c.index-blocks-i.result env (grind (arith, nat_tests)) c.index-blocks-i.is
    (ap (λ b. set_denotes b env) (sym c.as_slice.ensures.items) ∙ c.block_covers.ensures h env k)
