use Rattle.std.proofs.Common.{◌≡◌, Bool, true, not}
use Rattle.smpl_terms.specs.declared.var.Var.{Var}
use Rattle.smpl_terms.specs.Environments.{Environment}
use Rattle.env_sets.specs.Sets.{set_denotes, set_vars}
use Rattle.ctl_fixpoint.specs.CtlHolds.Holding.{open_after, off_block}
use Rattle.ctl_fixpoint.specs.Steps.{row_vars, Gives}
use Rattle.ctl_fixpoint.proofs.blocks.outside_row.Given as goal

abbrev pub invariant-loop-s : goal.invariant-loop-s
invariant-loop-s l = record {
  gives : Gives l.s l.sets.items (λ s env. off_block l.g (env l.b) s);
  vars : (test : Var → Bool) → test l.b ≡ true → row_vars test l.sets.items ≡ true;
  shut_gives : (env : Environment) → set_denotes l.shut env ≡ not (open_after l.g (env l.b) l.s);
  shut_vars : (test : Var → Bool) → test l.b ≡ true → set_vars test l.shut ≡ true;
}
