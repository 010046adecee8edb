use Rattle.std.proofs.Common.{◌≡◌, Bool, true, ◌||◌, ◌∙◌, subst}
use Rattle.std.specs.Prelude.{IfOk}
use Rattle.smpl_terms.specs.declared.var.Var.{Var}
use Rattle.smpl_terms.specs.Environments.{has_value}
use Rattle.env_sets.specs.Sets.{set_vars}
use Rattle.env_sets.specs.Laws.{IsGiven}
use Rattle.env_sets.proofs.algebra.given.Goals as goal

pub returns-in-Some-clause-meaning : goal.returns-in-Some-clause-meaning
returns-in-Some-clause-meaning c = subst
    (λ es. IfOk c.entries_given.result (λ r. IsGiven c.args.env.now es r)) c.in-Some.ensures c.entries_given.ensures.meaning

pub returns-in-Some-clause-vars : goal.returns-in-Some-clause-vars
returns-in-Some-clause-vars c = subst (λ es. IfOk c.entries_given.result
    (λ r. (t : Var → Bool) → set_vars (λ x. t x || has_value c.args.env.now x) es ≡ true → set_vars t r ≡ true)) c.in-Some.ensures c.entries_given.ensures.vars

pub returns-in_ok-list-in-None-clause-meaning : goal.returns-in_ok-list-in-None-clause-meaning
returns-in_ok-list-in-None-clause-meaning c =
    subst (λ es. IfOk c.entries_given-in-None.result (λ r. IsGiven c.args.env.now es r))
    (c.entries.ensures.entries ∙ c.in_ok-list-in-None.ensures) c.entries_given-in-None.ensures.meaning

pub returns-in_ok-list-in-None-clause-vars : goal.returns-in_ok-list-in-None-clause-vars
returns-in_ok-list-in-None-clause-vars c =
    subst (λ es. IfOk c.entries_given-in-None.result
    (λ r. (t : Var → Bool) → set_vars (λ x. t x || has_value c.args.env.now x) es ≡ true → set_vars t r ≡ true))
    (c.entries.ensures.entries ∙ c.in_ok-list-in-None.ensures) c.entries_given-in-None.ensures.vars
