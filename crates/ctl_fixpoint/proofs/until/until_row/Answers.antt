use Rattle.std.proofs.Common.{◌≡◌, sym, ap, ◌∙◌, subst, arith}
use Rattle.cfg_build.specs.CfgGraph.Flow.{count_of}
use Rattle.ctl_fixpoint.specs.Steps.{row_vars, Gives}
use Rattle.ctl_fixpoint.specs.Sweeps.{until_of, SweptTimes}
use Rattle.ctl_fixpoint.proofs.SweepLemmas.{swept_more, swept_all, swept_still}
use Rattle.ctl_fixpoint.proofs.until.until_row.Goals as goal

pub loop-k-init : goal.loop-k-init
loop-k-init c = c.in_ok-sweep.ensures

pub loop-k-preserved : goal.loop-k-preserved
loop-k-preserved c =
    swept_more c.args.g.now c.count-count.ensures.sound c.args.every c.args.way.now c.args.end.now c.loop-k._k
    c.loop-k.sweep c.go_over.new.self c.in_ok-changed.changed c.loop-k.invariant c.in_ok-changed.ensures

pub returns-then-not-changed-clause-gives : goal.returns-then-not-changed-clause-gives
returns-then-not-changed-clause-gives c =
    let g = c.args.g.now in
    subst (λ r. Gives (count_of g) r (until_of g c.args.every c.args.way.now c.args.end.now (count_of g)))
    (sym c.into_sets.ensures)
    (swept_still g c.count-count.ensures.sound c.args.every c.args.way.now c.args.end.now c.loop-k.sweep
    c.go_over.new.self c.in_ok-changed.changed c.in_ok-changed.ensures c.if-not-changed.true)

pub returns : goal.returns
returns c =
    let g = c.args.g.now in
    let all : c.loop-k._k ≡ count_of g = omega (arith, c.count-count.ensures.value) in
    record {
      gives = subst (λ r. Gives (count_of g) r (until_of g c.args.every c.args.way.now c.args.end.now (count_of g)))
          (sym c.into_sets-2.ensures)
          (swept_all g c.count-count.ensures.sound c.args.every c.args.way.now c.args.end.now c.loop-k.sweep
          (subst (λ k. SweptTimes g c.args.every c.args.way.now c.args.end.now k c.loop-k.sweep) all c.loop-k.invariant));
      vars = λ test a b. ap (row_vars test) c.into_sets-2.ensures ∙ c.loop-k.invariant.vars test a b;
    }
