use Rattle.std.proofs.Common.{◌≡◌, Bool, not, true, false, refl, ap, ◌∙◌}
use Rattle.env_sets.specs.Sets.{set_denotes}
use Rattle.env_sets.proofs.laws.complement_twice.Goals as goal

not-not : (b : Bool) → not (not b) ≡ b
not-not true = refl
not-not false = refl

pub returns : goal.returns
returns c = λ a once twice first second env. second env ∙ ap not (first env) ∙ not-not (set_denotes a env)
