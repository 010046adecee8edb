use Rattle.std.proofs.Common.{◌++◌, ◌-◌, length, sym, ap, ◌∙◌, subst, arith}
use Rattle.env_sets.specs.Rising.{Rise}
use Rattle.env_sets.proofs.RunLemmas.{AllRise-at, run_last}
use Rattle.env_sets.proofs.runs.last_of.Goals as goal

pub returns-clause-items : goal.returns-clause-items
returns-clause-items c = λ vs.
    run_last c.args.runs.now (length c.args.runs.now - 1) c.index-runs-last.result c.as_slice.result.now c.put_all.new.out.items (omega arith)
    c.index-runs-last.is c.as_slice.ensures.items (c.in_ok-put_all.ensures ∙ ap (λ xs. xs ++ c.as_slice.result.now) c.new-all.ensures.items) vs

pub returns-clause-rise : goal.returns-clause-rise
returns-clause-rise c =
    subst Rise (sym (c.in_ok-put_all.ensures ∙ ap (λ xs. xs ++ c.as_slice.result.now) c.new-all.ensures.items ∙ c.as_slice.ensures.items))
    (AllRise-at (length c.args.runs.now - 1) c.args.runs.now c.index-runs-last.result c.requires.rise (omega arith) c.index-runs-last.is)
