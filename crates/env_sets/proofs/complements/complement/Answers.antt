use Rattle.std.proofs.Common.{◌≡◌, Bool, true, ◌∙◌, subst}
use Rattle.std.specs.Prelude.{IfOk}
use Rattle.smpl_terms.specs.declared.var.Var.{Var}
use Rattle.env_sets.specs.Sets.{set_vars}
use Rattle.env_sets.specs.Laws.{IsComplement}
use Rattle.env_sets.proofs.complements.complement.Goals as goal

pub returns-in-Some-clause-meaning : goal.returns-in-Some-clause-meaning
returns-in-Some-clause-meaning c = subst (λ es. IfOk c.complement_of.result (λ r. IsComplement es r)) c.in-Some.ensures c.complement_of.ensures.meaning

pub returns-in-Some-clause-vars : goal.returns-in-Some-clause-vars
returns-in-Some-clause-vars c = subst (λ es. IfOk c.complement_of.result (λ r. (t : Var → Bool) → set_vars t es ≡ true
    → set_vars t r ≡ true)) c.in-Some.ensures c.complement_of.ensures.vars

pub returns-in_ok-list-in-None-clause-meaning : goal.returns-in_ok-list-in-None-clause-meaning
returns-in_ok-list-in-None-clause-meaning c =
    subst (λ es. IfOk c.complement_of-in-None.result (λ r. IsComplement es r))
    (c.entries.ensures.entries ∙ c.in_ok-list-in-None.ensures) c.complement_of-in-None.ensures.meaning

pub returns-in_ok-list-in-None-clause-vars : goal.returns-in_ok-list-in-None-clause-vars
returns-in_ok-list-in-None-clause-vars c =
    subst (λ es. IfOk c.complement_of-in-None.result (λ r. (t : Var → Bool) → set_vars t es ≡ true → set_vars t r ≡ true))
    (c.entries.ensures.entries ∙ c.in_ok-list-in-None.ensures) c.complement_of-in-None.ensures.vars
