use Rattle.std.proofs.Common.{◌≡◌, length, refl, arith}
use Rattle.cfg_build.specs.CfgGraph.Flow.{count_of}
use Rattle.ctl_fixpoint.proofs.SweepLemmas.{sweep_first}
use Rattle.ctl_fixpoint.proofs.sweeps.Sweep.new.Goals as goal

pub returns : goal.returns
returns c =
    let sets : length c.loop-n.sets.items ≡ count_of c.args.g.now =
    omega (arith, c.loop-n.invariant.sets_len, c.count-count.ensures.value) in
    let seen : length c.loop-n.seen.items ≡ count_of c.args.g.now =
    omega (arith, c.loop-n.invariant.seen_len, c.count-count.ensures.value) in
    let changed : length c.loop-n.changed.items ≡ count_of c.args.g.now =
    omega (arith, c.loop-n.invariant.changed_len, c.count-count.ensures.value) in
    sweep_first c.args.g.now c.requires c.args.every c.args.way.now c.args.end.now _ sets seen changed
    c.loop-n.invariant.sets_none c.loop-n.invariant.seen_none c.loop-n.invariant.changed_one refl
