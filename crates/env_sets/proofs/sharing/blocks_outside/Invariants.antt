use Rattle.std.proofs.Common.{◌≡◌, ◌&&◌, not, Bool, true, take}
use Rattle.std.specs.List.{list_any}
use Rattle.smpl_terms.specs.declared.var.Var.{Var}
use Rattle.smpl_terms.specs.Values.{same}
use Rattle.smpl_terms.specs.Environments.{Environment}
use Rattle.env_sets.specs.Sets.{set_denotes, set_vars}
use Rattle.env_sets.specs.Blocks.{all_entries, AreInOrder}
use Rattle.env_sets.proofs.sharing.blocks_outside.Given as goal

abbrev pub invariant-loop-v : goal.invariant-loop-v
invariant-loop-v l = record {
  meaning : (env : Environment) → set_denotes (all_entries l.left) env
      ≡ (set_denotes (all_entries l.rest) env && not (list_any (λ v. same v (env l.x)) (take l.v-index l.v-items)));
  vars : (t : Var → Bool) → set_vars t (all_entries l.rest) ≡ true → set_vars t (all_entries l.left) ≡ true;
  order : AreInOrder l.left;
}
