use Rattle.std.proofs.Common.{◌≡◌, ◌&&◌, ◌||◌, Bool, true, not, take}
use Rattle.smpl_terms.specs.declared.var.Var.{Var}
use Rattle.smpl_terms.specs.Environments.{Environment}
use Rattle.smpl_terms.specs.Values.{same}
use Rattle.std.specs.List.{list_any}
use Rattle.env_sets.specs.Sets.{set_denotes, set_vars}
use Rattle.env_sets.proofs.complements.outside_lone.Given as goal

abbrev pub invariant-loop-v : goal.invariant-loop-v
invariant-loop-v l = record {
  meaning : (env : Environment) → set_denotes l.out.items env
      ≡ (list_any (λ v. same v (env l.x)) (take l.v-index l.values) && not (list_any (λ v. same v (env l.x)) l.parts.fixed || set_denotes l.parts.others env));
  vars : (t : Var → Bool) → t l.x ≡ true → set_vars t l.out.items ≡ true;
}
