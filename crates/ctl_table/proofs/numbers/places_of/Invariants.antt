use Rattle.std.proofs.Common.{◌≡◌, ◌+◌, ◌≤◌, ℕ, length, drop}
use Rattle.std.specs.Prelude.{nat_eq, unwrap_or}
use Rattle.std.specs.HashMap.{get}
use Rattle.ctl_table.specs.Blocks.{index_of}
use Rattle.ctl_table.proofs.numbers.places_of.Given as goal

abbrev pub invariant-loop-i : goal.invariant-loop-i
invariant-loop-i l = record {
  within : l.i ≤ length l.atoms;
  known : (n : ℕ) → unwrap_or (get nat_eq l.places n) (length l.atoms) ≡ l.i + index_of n (drop l.i l.atoms);
}

abbrev pub decreases-loop-i : goal.decreases-loop-i
decreases-loop-i l = l.i
