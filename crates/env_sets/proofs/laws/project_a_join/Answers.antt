use Rattle.std.proofs.Common.{sym, ◌∙◌, ⊎_elim}
use Rattle.std.specs.Cmp.{both_ways}
use Rattle.smpl_terms.specs.Environments.{change}
use Rattle.env_sets.specs.Sets.{set_denotes}
use Rattle.env_sets.proofs.LoopLemmas.{either_true, or_true, or_cases}
use Rattle.env_sets.proofs.laws.project_a_join.Goals as goal

pub returns : goal.returns
returns c = λ x a b either of_either of_a of_b joined joins from_either from_a from_b joins_parts env.
    both_ways (set_denotes of_either env) (set_denotes joined env)
    (λ h. let w = (from_either env).0 h in
    joins_parts env ∙ ⊎_elim
    (λ l. either_true (set_denotes of_a env) (set_denotes of_b env) ((from_a env).1 (w.0, l)))
    (λ r. or_true (set_denotes of_a env) (set_denotes of_b env) ((from_b env).1 (w.0, r)))
    (or_cases (set_denotes a (change env x w.0)) (set_denotes b (change env x w.0)) (sym (joins (change env x w.0)) ∙ w.1)))
    (λ h. ⊎_elim
    (λ l. let w = (from_a env).0 l in (from_either env).1
    (w.0, joins (change env x w.0) ∙ either_true (set_denotes a (change env x w.0)) (set_denotes b (change env x w.0)) w.1))
    (λ r. let w = (from_b env).0 r in (from_either env).1
    (w.0, joins (change env x w.0) ∙ or_true (set_denotes a (change env x w.0)) (set_denotes b (change env x w.0)) w.1))
    (or_cases (set_denotes of_a env) (set_denotes of_b env) (sym (joins_parts env) ∙ h)))
