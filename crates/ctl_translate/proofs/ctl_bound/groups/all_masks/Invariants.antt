use Rattle.std.proofs.Common.{◌≡◌, ℕ, ◌/◌, ◌<◌, List, map, Some, length}
use Rattle.smpl_terms.specs.declared.var.Var.{Var}
use Rattle.ctl_formula.specs.declared.node.Node.{Node}
use Rattle.ctl_formula.specs.Bounds.{Surely}
use Rattle.ctl_formula.specs.Tables.{at, plains}
use Rattle.ctl_translate.specs.CtlBound.Binding.{binds_at}
use Rattle.ctl_translate.specs.CtlBound.Naming.{AreMarked, lists_of, group_of}
use Rattle.ctl_translate.specs.CtlBound.Saying.{said_of}
use Rattle.ctl_translate.specs.CtlBound.Steps.{step_of}
use Rattle.ctl_translate.proofs.ctl_bound.groups.all_masks.Given as goal

abbrev pub invariant-loop-group : goal.invariant-loop-group
invariant-loop-group l = (length l.masks.items ≡ l.group) × (length l.named.items ≡ length l.steps)
    × ((ns : List Node) (sure : Surely) (x : Var) (k : ℕ) → k / 64 < l.group → l.steps ≡ map step_of ns
    → AreMarked sure x k ns (group_of (lists_of l.groups) k)
    → said_of l.masks.items (Some k) ≡ Some (binds_at sure x (at (plains ns) l.root)))
