use Rattle.std.proofs.Common.{◌≡◌, ◌+◌, ◌-◌, ◌||◌, ◌∙◌, arith}
use Rattle.cfg_build.specs.CfgGraph.Flow.{count_of}
use Rattle.ctl_fixpoint.proofs.SweepLemmas.{sweeps_none, sweeps_more, either_true, either_false}
use Rattle.ctl_fixpoint.proofs.sweeps.Sweep.go_over.Goals as goal
use Rattle.ctl_fixpoint.proofs.sweeps.Sweep.go_over.Goals.{then-any, else-any}

pub loop-n-init : goal.loop-n-init
loop-n-init c =
    sweeps_none c.args.g.now c.requires.sound c.args.every c.args.way.now c.args.end.now c.args.self.now c.requires.sweep

pub loop-n-preserved : goal.loop-n-preserved
loop-n-preserved c =
    let at : (c.count-count.result - 1 - c.loop-n.n) + c.loop-n.n + 1 ≡ count_of c.args.g.now =
    omega (arith, c.count-count.ensures.value) in
    let either : c.if-any.any ≡ (c.loop-n.any || c.in_ok-changed.changed) = elim c.if-any.branch [
      | then-any w ↦ either_true c.loop-n.any c.in_ok-changed.changed c.if-any.any w.if-any.true (w.any-is ∙ w.if-any.true)
      | else-any w ↦ either_false c.loop-n.any c.in_ok-changed.changed c.if-any.any w.if-any.false w.any-is
    ] in
    sweeps_more c.args.g.now c.requires.sound c.args.every c.args.way.now c.args.end.now c.loop-n.n
    (c.count-count.result - 1 - c.loop-n.n) c.args.self.now c.loop-n.self c.visit.new.self c.loop-n.any
    c.in_ok-changed.changed c.if-any.any at c.loop-n.invariant c.in_ok-changed.ensures either
