use Rattle.std.proofs.Common.{◌≡◌, Bool, true}
use Rattle.smpl_terms.specs.declared.var.Var.{Var}
use Rattle.smpl_terms.specs.Environments.{Environment}
use Rattle.env_sets.specs.Sets.{set_denotes, set_vars}
use Rattle.ctl_fixpoint.specs.CtlHolds.Holding.{open_after, in_block}
use Rattle.ctl_fixpoint.specs.Steps.{row_vars, Gives}
use Rattle.ctl_fixpoint.proofs.blocks.inside_row.Given as goal

abbrev pub invariant-loop-s : goal.invariant-loop-s
invariant-loop-s l = record {
  gives : Gives l.s l.sets.items (λ s env. in_block l.g (env l.b) s);
  vars : (test : Var → Bool) → test l.b ≡ true → row_vars test l.sets.items ≡ true;
  around_gives : (env : Environment) → set_denotes l.around env ≡ open_after l.g (env l.b) l.s;
  around_vars : (test : Var → Bool) → test l.b ≡ true → set_vars test l.around ≡ true;
}
