-- Exported variables that have no value yet.
use Rattle.std.proofs.Common.{◌≡◌, Bool, true, false, not, ◌&&◌, refl, ap₂, ◌∙◌, List, [], ◌∷◌}
use Rattle.std.specs.Prelude.{Option, None, Some, is_some}
use Rattle.smpl_terms.specs.declared.var.Var.{Var}
use Rattle.smpl_terms.specs.declared.value.Value.{Value}
use Rattle.smpl_terms.specs.Environments.{value_in}
use Rattle.env_parts.specs.Parts.{Pairs, is_among}
use Rattle.rule_chain.specs.RuleWitnesses.Choices.{AreNew}
use Rattle.rule_chain.specs.FileWitnesses.Required.{are_new}

both : (a b : Bool) → (a && b) ≡ true → (a ≡ true) × (b ≡ true)
both true b h = (refl, h)
both false b h = absurd (cc)

not_true : (b : Bool) → not b ≡ true → b ≡ false
not_true true h = absurd (cc)
not_true false h = refl

no_value : (o : Option Value) → not (is_some o) ≡ true → o ≡ None
no_value None h = refl
no_value (Some v) h = absurd (cc)

pub new_told : (xs : List Var) (env : Pairs) → are_new xs env ≡ true → AreNew xs env
new_told [] env h = tt
new_told (x ∷ xs) env h =
    let first = both (not (is_some (value_in env x))) (not (is_among xs x) && are_new xs env) h in
    let rest = both (not (is_among xs x)) (are_new xs env) first.1 in
    (no_value (value_in env x) first.0, not_true (is_among xs x) rest.0, new_told xs env rest.1)

pub new_tell : (xs : List Var) (env : Pairs) → AreNew xs env → are_new xs env ≡ true
new_tell [] env h = refl
new_tell (x ∷ xs) env h =
    ap₂ (λ (o : Option Value) (b : Bool). not (is_some o) && (not b && are_new xs env)) h.0 h.1 ∙ new_tell xs env h.2
