use Rattle.std.proofs.Common.{◌≡◌, ℕ, ◌+◌, ◌<◌, ◌≤◌, ◌&&◌, nat_le, Bool, true}
use Rattle.smpl_terms.specs.declared.var.Var.{Var}
use Rattle.smpl_terms.specs.Environments.{Environment}
use Rattle.env_sets.specs.Sets.{set_denotes, set_vars}
use Rattle.pat_match.specs.Rows.{row_at, row_vars, tail_at}
use Rattle.pat_match.proofs.rows.fit_every_row.Given as goal

abbrev pub invariant-loop-from : goal.invariant-loop-from
invariant-loop-from l = record {
  within : l.from ≤ l.count + 1;
  set : (env : Environment) → set_denotes l.set env ≡ tail_at l.count l.row l.from env;
  out : (n : ℕ) (env : Environment) → n < l.count + 1 → row_at l.out.items n env ≡ (nat_le l.from n && tail_at l.count l.row n env);
  set_vars : (t : Var → Bool) → row_vars t l.row ≡ true → set_vars t l.set ≡ true;
  out_vars : (t : Var → Bool) → row_vars t l.row ≡ true → row_vars t l.out.items ≡ true;
}

abbrev pub decreases-loop-from : goal.decreases-loop-from
decreases-loop-from l = l.from
