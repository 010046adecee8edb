use Rattle.std.proofs.Common.{sym, ap, ◌∙◌, subst, arith}
use Rattle.env_sets.specs.Rising.{Rise}
use Rattle.env_sets.specs.Runs.{AllRise, with_values}
use Rattle.env_sets.proofs.RunLemmas.{AllRise-at, AllRise-drop, absorb_step, absorb_end}
use Rattle.env_sets.proofs.runs.absorbed.Goals as goal

pub merged-requires-clause-many : goal.merged-requires-clause-many
merged-requires-clause-many c =
    subst Rise (sym c.as_slice-in-loop-k.ensures.items)
    (AllRise-at c.loop-k.k c.as_slice-runs.result.now c.index-runs-k-in-loop-k.result
    (subst AllRise (sym c.as_slice-runs.ensures.items) c.requires.rest) (omega arith) c.index-runs-k-in-loop-k.is)

pub loop-k-preserved : goal.loop-k-preserved
loop-k-preserved c = record {
  within = omega arith;
  rise = c.in_ok-all.ensures.rise;
  meaning = λ z. absorb_step c.as_slice-runs.result.now c.loop-k.k c.index-runs-k-in-loop-k.result
      c.as_slice-in-loop-k.result.now c.loop-k.all.items c.in_ok-all.all.items z _
      (omega arith) c.index-runs-k-in-loop-k.is c.as_slice-in-loop-k.ensures.items
      (c.in_ok-all.ensures.items ∙ ap (λ xs. with_values xs c.as_slice-in-loop-k.result.now) c.deref.ensures.value) (c.loop-k.invariant.meaning z);
}

pub returns-clause-meaning : goal.returns-clause-meaning
returns-clause-meaning c = λ z.
    absorb_end c.in_ok-of.field-0 c.loop-k.all.items c.in_ok-rest.rest c.as_slice-runs.result.now c.args.rest.now c.loop-k.k _ z
    c.in_ok-of.ensures.items c.in_ok-rest.ensures c.as_slice-runs.ensures.items (c.loop-k.invariant.meaning z)

pub returns-clause-rest : goal.returns-clause-rest
returns-clause-rest c = subst AllRise (sym c.in_ok-rest.ensures) (AllRise-drop c.loop-k.k c.args.rest.now c.requires.rest)
