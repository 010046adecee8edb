use Rattle.std.proofs.Common.{sym, ap, ◌∙◌}
use Rattle.std.proofs.lemmas.Result.{IfOk-weaker}
use Rattle.env_sets.specs.Sets.{set_denotes, set_vars}
use Rattle.env_sets.proofs.LoneLemmas.{more_meaning, more_vars}
use Rattle.env_sets.proofs.sets.settled_apart.Goals as goal

pub returns-clause-meaning : goal.returns-clause-meaning
returns-clause-meaning c = IfOk-weaker c.kept_of.result _ _ (λ r h env.
    h env ∙ c.in_order.ensures.meaning env
    ∙ more_meaning c.in_order-entries.result.items _ _ env c.in_ok-with_all.ensures
    (λ k. ap (λ es. set_denotes es env) (sym c.deref.ensures.value) ∙ c.in_ok-wider.ensures.within env k)
    ∙ c.in_order-entries.ensures.meaning env) c.kept_of.ensures.meaning

pub returns-clause-vars : goal.returns-clause-vars
returns-clause-vars c = IfOk-weaker c.kept_of.result _ _ (λ r h t all.
    let here = c.in_order-entries.ensures.vars t ∙ all in
    h t (c.in_order.ensures.vars t
    ∙ more_vars c.in_order-entries.result.items _ _ t c.in_ok-with_all.ensures here
    (c.in_ok-wider.ensures.vars t (ap (set_vars t) c.deref.ensures.value ∙ here)))) c.kept_of.ensures.vars
