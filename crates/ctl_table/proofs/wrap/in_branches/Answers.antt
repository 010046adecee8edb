use Rattle.std.proofs.Common.{get_or, refl}
use Rattle.ctl_table.proofs.RowLemmas.{all-next, in_branches-step}
use Rattle.ctl_table.proofs.wrap.in_branches.Goals as goal

pub loop-i-preserved : goal.loop-i-preserved
loop-i-preserved c =
    all-next _ _ _ _ _ _ c.in_ok-push.ensures.items
    (in_branches-step c.args.parts.now c.loop-i.parts c.push.new.self c.args.inside.now c.loop-i.made.items c.loop-i.i 0 (get_or c.args.inside.now c.loop-i.i 0)
    c.in_ok-down.down c.loop-i-test.true refl c.requires c.loop-i.invariant c.in_ok-down.ensures.made)
