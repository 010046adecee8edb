use Rattle.std.proofs.Common.{◌≡◌, Bool, true, take}
use Rattle.smpl_terms.specs.declared.var.Var.{Var}
use Rattle.env_sets.specs.Sets.{set_vars}
use Rattle.env_sets.specs.Splits.{AreGroupsOf, HaveVars}
use Rattle.env_sets.proofs.groups.groups_by.Given as goal

abbrev pub invariant-loop-e : goal.invariant-loop-e
invariant-loop-e l = record {
  meaning : AreGroupsOf l.x l.values-inside.items.items (take l.e-index l.b) l.groups.items l.others.items;
  vars : (t : Var → Bool) → set_vars t (take l.e-index l.b) ≡ true → HaveVars t l.groups.items l.others.items;
}
