use Rattle.std.proofs.Common.{arith}
use Rattle.std.proofs.lemmas.Grind.{common_steps}
use Rattle.env_sets.specs.Bounds.{fits}
use Rattle.env_sets.proofs.LoopLemmas.{all_fails}
use Rattle.env_sets.proofs.entries.narrowed_by.Goals as goal

pub returns-in-None-clause-meaning : goal.returns-in-None-clause-meaning
returns-in-None-clause-meaning c = λ env.
    let m = c.loop-p.invariant.meaning env in
    let n = c.in_ok-narrowed.ensures.meaning env in
    all_fails (λ p. fits (env p.0) p.1) c.pairs-p-items.result.now c.args.b.now c.loop-p.p-index c.p-item.result _ _
    (omega arith) c.p-item.is c.pairs-p-items.ensures.pairs m
    (rw c.in-None.is at n)

pub loop-p-preserved : goal.loop-p-preserved
loop-p-preserved c = record {
  meaning = λ env. grind (arith, common_steps, c.loop-p.invariant.meaning env, c.in_ok-narrowed.ensures.meaning env);
  vars = λ t h k. grind (arith, common_steps, c.loop-p.invariant.vars t h, c.in_ok-narrowed.ensures.vars t);
}
