use Rattle.std.proofs.Common.{◌≡◌, ◌<◌, ℕ, length, get_or, take}
use Rattle.std.specs.Prelude.{nat_le}
use Rattle.std.specs.List.{list_any}
use Rattle.edit_bodies.specs.Gone.{begins_at}
use Rattle.edit_bodies.proofs.gone.farthest_ends.Given as goal

abbrev pub invariant-loop-range : goal.invariant-loop-range
invariant-loop-range l = record {
  len : length l.ends.items ≡ l.count;
  each : (from to : ℕ) → from < length l.ends.items → 0 < to
      → nat_le to (get_or l.ends.items from 0) ≡ list_any (begins_at from to) (take l.range-index l.ranges);
}
