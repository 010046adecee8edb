use Rattle.std.proofs.Common.{◌≡◌, true, sym, subst, rules}
use Rattle.std.proofs.lemmas.Result.{IfOk-weaker}
use Rattle.env_sets.specs.Rising.{Rise}
use Rattle.env_sets.proofs.RunLemmas.{Rise-all_of}
use Rattle.env_sets.proofs.excluded.Values.with_all.Goals as goal

pub returns-then-are_none-clause-rise : goal.returns-then-are_none-clause-rise
returns-then-are_none-clause-rise c =
    let up : c.self.inside.rising ≡ true = search rules in
    let order = c.self.invariant.0 up in
    IfOk-weaker c.copy.result _ _ (λ r h.
    subst Rise (sym h) (subst Rise c.self.view_is (Rise-all_of c.self.inside.runs.first c.self.inside.runs.rest order.0 order.1))) c.copy.ensures.same

pub returns-clause-rise : goal.returns-clause-rise
returns-clause-rise c = Rise-all_of c.in_ok-runs.runs.first c.in_ok-runs.runs.rest c.in_ok-runs.ensures.first c.in_ok-runs.ensures.rest
