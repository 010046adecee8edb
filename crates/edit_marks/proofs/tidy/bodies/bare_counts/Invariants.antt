use Rattle.std.proofs.Common.{◌≡◌, ◌<◌, ◌≤◌, ◌+◌, ℕ, length, get_or, take}
use Rattle.edit_marks.specs.Tidy.Bodies.{acts_in, count_bare}
use Rattle.edit_marks.proofs.tidy.bodies.bare_counts.Given as goal

abbrev pub invariant-loop-leaf : goal.invariant-loop-leaf
invariant-loop-leaf l = record {
  count : l.count ≡ count_bare (acts_in l.changes) (take l.leaf-index l.leaves);
  few : l.count ≤ l.leaf-index;
  long : length l.counts.items ≡ l.leaf-index + 1;
  each : (n d : ℕ) → n < length l.counts.items → get_or l.counts.items n d ≡ count_bare (acts_in l.changes) (take n l.leaves);
}
