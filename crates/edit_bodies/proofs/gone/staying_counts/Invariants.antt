use Rattle.std.proofs.Common.{◌≡◌, ◌<◌, ◌≤◌, ◌+◌, ℕ, false, not, length, get_or, take}
use Rattle.std.specs.List.{count_by}
use Rattle.edit_bodies.proofs.gone.staying_counts.Given as goal

abbrev pub invariant-loop-leaf : goal.invariant-loop-leaf
invariant-loop-leaf l = record {
  count : l.count ≡ count_by (λ n. not (get_or l.removed n false)) (take l.leaf-index l.leaves);
  few : l.count ≤ l.leaf-index;
  long : length l.counts.items ≡ l.leaf-index + 1;
  each : (n : ℕ) → n < length l.counts.items → get_or l.counts.items n 0 ≡ count_by (λ n. not (get_or l.removed n false)) (take n l.leaves);
}
