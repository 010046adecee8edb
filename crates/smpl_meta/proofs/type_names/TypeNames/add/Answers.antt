use Rattle.std.proofs.Common.{◌∙◌}
use Rattle.smpl_meta.proofs.NamingLemmas.{names_more}
use Rattle.smpl_meta.proofs.type_names.TypeNames.add.Goals as goal

pub loop-item-preserved : goal.loop-item-preserved
loop-item-preserved c =
    rw c.in_ok-put_item.ensures (names_more c.loop-item.self c.args.items.now c.loop-item.item-index c.item-item.result c.loop-item-test.true c.item-item.is
    ∙ c.loop-item.invariant)
