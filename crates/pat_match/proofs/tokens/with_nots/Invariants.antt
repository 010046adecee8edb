use Rattle.std.proofs.Common.{◌≡◌, ◌&&◌, not, take, Bool, true}
use Rattle.std.specs.List.{list_all}
use Rattle.smpl_terms.specs.declared.value.Value.TheVariants.{Place}
use Rattle.smpl_terms.specs.Values.{same}
use Rattle.smpl_terms.specs.Environments.{Environment}
use Rattle.env_sets.specs.Sets.{set_denotes, set_vars}
use Rattle.smpl_terms.specs.declared.var.Var.{Var}
use Rattle.pat_match.proofs.tokens.with_nots.Given as goal

abbrev pub invariant-loop-y : goal.invariant-loop-y
invariant-loop-y l = record {
  meaning : (env : Environment) → set_denotes l.out env ≡ (set_denotes l.fn.set env && list_all (λ y. not (same (Place l.id) (env y))) (take l.y-index l.vars));
  vars : (t : Var → Bool) → set_vars t l.fn.set ≡ true → list_all t (take l.y-index l.vars) ≡ true → set_vars t l.out ≡ true;
}
