use Rattle.std.proofs.Common.{◌≡◌, cond, None, take}
use Rattle.smpl_terms.specs.declared.var.Var.{Var}
use Rattle.smpl_terms.specs.Vars.{same_var}
use Rattle.smpl_terms.specs.Environments.{value_in}
use Rattle.wit_forest.proofs.wit_steps.envs.without.Given as goal

abbrev pub invariant-loop-p : goal.invariant-loop-p
invariant-loop-p l = (y : Var) → value_in l.rest y ≡ cond (same_var y l.x) None (value_in (take l.p-index l.p-items) y)
