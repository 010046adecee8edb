use Rattle.std.proofs.Common.{◌<◌, ◌≤◌, length, ap, arith}
use Rattle.ctl_fixpoint.specs.Sweeps.{Sweeping}
use Rattle.ctl_fixpoint.proofs.RowLemmas.{looked_at}
use Rattle.ctl_fixpoint.proofs.sweeps.Sweep.is_stale.Goals as goal

pub returns : goal.returns
returns c =
    let all : length c.succ-k-items.result.now ≤ c.loop-k.k-index = omega arith in
    let lt : c.args.s < length c.args.self.now.seen = omega (arith, c.requires.node, c.requires.seen) in
    λ e. looked_at c.succ-k-items.result.now _ c.self.inside.seen.items c.args.self.now.seen c.args.self.now.changed
    c.loop-k.k-index c.args.s c.index-seen.result.now c.succ-k-items.ensures.value all c.loop-k.invariant
    (ap (λ (w : Sweeping). w.seen) c.self.view_is) c.index-seen.ensures lt
