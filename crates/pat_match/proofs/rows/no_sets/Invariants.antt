use Rattle.std.proofs.Common.{◌≡◌, ℕ, Bool, true, false, length}
use Rattle.std.specs.List.{list_all}
use Rattle.smpl_terms.specs.declared.var.Var.{Var}
use Rattle.smpl_terms.specs.Environments.{Environment}
use Rattle.env_sets.specs.Sets.{set_vars}
use Rattle.pat_match.specs.Rows.{set_at}
use Rattle.pat_match.proofs.rows.no_sets.Given as goal

abbrev pub invariant-loop-n : goal.invariant-loop-n
invariant-loop-n l = record {
  even : length l.sets.items ≡ l._n;
  meaning : (n : ℕ) (env : Environment) → set_at l.sets.items n env ≡ false;
  vars : (t : Var → Bool) → list_all (set_vars t) l.sets.items ≡ true;
}
