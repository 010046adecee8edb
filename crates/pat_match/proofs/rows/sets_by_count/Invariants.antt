use Rattle.std.proofs.Common.{◌≡◌, ℕ, ◌+◌, ◌<◌, Bool, true, take, length}
use Rattle.std.specs.List.{list_all}
use Rattle.smpl_terms.specs.declared.var.Var.{Var}
use Rattle.smpl_terms.specs.Environments.{Environment}
use Rattle.env_sets.specs.Sets.{set_vars}
use Rattle.pat_match.specs.Rows.{row_at, row_vars, set_at}
use Rattle.pat_match.proofs.rows.sets_by_count.Given as goal

abbrev pub invariant-loop-entry : goal.invariant-loop-entry
invariant-loop-entry l = record {
  even : length l.sets.items ≡ l.count + 1;
  meaning : (n : ℕ) (env : Environment) → n < l.count + 1 → set_at l.sets.items n env ≡ row_at (take l.entry-index l.row) n env;
  vars : (t : Var → Bool) → row_vars t (take l.entry-index l.row) ≡ true → list_all (set_vars t) l.sets.items ≡ true;
}
