use Rattle.std.proofs.Common.{◌≡◌, ◌≤◌, ◌<◌, ◌/◌, ℕ, [], length, take, get_or}
use Rattle.ctl_translate.specs.CtlBound.Naming.{is_marked, lists_of, group_of}
use Rattle.ctl_translate.proofs.ctl_bound.naming.grouped.Given as goal

abbrev pub invariant-loop : goal.invariant-loop
invariant-loop l = record {
  few : l.counter ≤ l.count;
  len : length l.groups.items ≡ l.counter;
  none : (j : ℕ) → get_or (lists_of l.groups.items) j [] ≡ [];
}

abbrev pub invariant-loop-mark : goal.invariant-loop-mark
invariant-loop-mark l = record {
  len : length l.groups.items ≡ l.count;
  marks : (i k : ℕ) → k / 64 < l.count
      → is_marked (group_of (lists_of l.groups.items) k) i k ≡ is_marked (take l.mark-index l.marks) i k;
}
