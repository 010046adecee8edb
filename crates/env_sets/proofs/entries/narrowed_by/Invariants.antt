use Rattle.std.proofs.Common.{◌≡◌, ◌&&◌, Bool, true, take}
use Rattle.smpl_terms.specs.declared.var.Var.{Var}
use Rattle.smpl_terms.specs.Environments.{Environment}
use Rattle.env_sets.specs.Sets.{entry_denotes, entry_vars}
use Rattle.env_sets.proofs.entries.narrowed_by.Given as goal

abbrev pub invariant-loop-p : goal.invariant-loop-p
invariant-loop-p l = record {
  meaning : (env : Environment) → entry_denotes l.both env ≡ (entry_denotes l.a env && entry_denotes (take l.p-index l.p-items) env);
  vars : (t : Var → Bool) → entry_vars t l.a ≡ true → entry_vars t (take l.p-index l.p-items) ≡ true → entry_vars t l.both ≡ true;
}
