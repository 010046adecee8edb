use Rattle.std.proofs.Common.{ap, sym, ◌∙◌}
use Rattle.env_sets.specs.Sets.{set_denotes}
use Rattle.env_sets.specs.Blocks.{all_entries}
use Rattle.env_sets.proofs.SharingLemmas.{first_holds, rest_holds}
use Rattle.env_sets.proofs.sharing.is_covered.Goals as goal

pub returns-then-first_cover : goal.returns-then-first_cover
returns-then-first_cover c = λ h env k.
    first_holds c.args.set.now c.by_order.result.0.now c.by_order.result.1.now env c.by_order.ensures.entries
    (c.first_cover.ensures c.if-first_cover.true env k)

pub returns : goal.returns
returns c = λ h env k.
    rest_holds c.args.set.now c.by_order.result.0.now c.by_order.result.1.now env c.by_order.ensures.entries
    (ap (λ bs. set_denotes (all_entries bs) env) (sym c.as_slice.ensures.items) ∙ c.blocks_cover.ensures h env k)
