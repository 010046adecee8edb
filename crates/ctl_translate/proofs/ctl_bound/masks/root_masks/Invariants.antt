use Rattle.std.proofs.Common.{◌≡◌, ℕ, ◌<◌, List, take, map, length}
use Rattle.smpl_terms.specs.declared.var.Var.{Var}
use Rattle.ctl_formula.specs.declared.node.Node.{Node}
use Rattle.ctl_formula.specs.Bounds.{Surely}
use Rattle.ctl_formula.specs.Tables.{plains}
use Rattle.ctl_translate.specs.CtlBound.Binding.{binds_at}
use Rattle.ctl_translate.specs.CtlBound.Bits.{bit_binds}
use Rattle.ctl_translate.specs.CtlBound.Naming.{AreNamed}
use Rattle.ctl_translate.specs.CtlBound.Steps.{step_of}
use Rattle.ctl_translate.proofs.ctl_bound.masks.root_masks.Given as goal

abbrev pub invariant-loop-i : goal.invariant-loop-i
invariant-loop-i l = (length l.known.items ≡ l.i)
    × ((ns : List Node) (sure : Surely) (x : Var) (k : ℕ) → k < 64 → l.steps ≡ map step_of ns
    → AreNamed sure x k ns l.named
    → map (λ m. bit_binds m k) l.known.items ≡ map (binds_at sure x) (take l.i (plains ns)))
