use Rattle.std.proofs.Common.{◌≡◌, Bool, ◌&&◌, ◌||◌, not, true, false, refl, sym, ap, ◌∙◌}
use Rattle.env_sets.specs.Sets.{set_denotes}
use Rattle.env_sets.proofs.laws.de_morgan.Goals as goal

not-and : (a b : Bool) → not (a && b) ≡ (not a || not b)
not-and true b = refl
not-and false b = refl

pub returns : goal.returns
returns c = λ a b both outside not_a not_b either meets complements of_a of_b joins env.
    complements env ∙ ap not (meets env) ∙ not-and (set_denotes a env) (set_denotes b env)
    ∙ sym (joins env ∙ (λ i. of_a env i || of_b env i))
