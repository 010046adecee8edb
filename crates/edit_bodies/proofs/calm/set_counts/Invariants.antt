use Rattle.std.proofs.Common.{◌≡◌, ◌<◌, ◌≤◌, ◌+◌, ℕ, length, get_or, take}
use Rattle.std.specs.Prelude.{count_by}
use Rattle.edit_bodies.proofs.calm.set_counts.Given as goal

abbrev pub invariant-loop-flag : goal.invariant-loop-flag
invariant-loop-flag l = record {
  count : l.count ≡ count_by (λ f. f) (take l.flag-index l.flags);
  few : l.count ≤ l.flag-index;
  long : length l.counts.items ≡ l.flag-index;
  each : (n : ℕ) → n < length l.counts.items → get_or l.counts.items n 0 ≡ count_by (λ f. f) (take (n + 1) l.flags);
}
