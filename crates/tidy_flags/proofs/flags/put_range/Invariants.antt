use Rattle.std.proofs.Common.{◌≡◌, ◌<◌, ◌≤◌, ◌+◌, ◌&&◌, ℕ, true, false, length, get_or}
use Rattle.std.specs.Prelude.{if◌then◌else◌, nat_le, nat_lt}
use Rattle.tidy_flags.proofs.flags.put_range.Given as goal

abbrev pub invariant-loop-token : goal.invariant-loop-token
invariant-loop-token l = record {
  end : l.last + 1 ≤ l.first → l.token ≡ l.first;
  len : length l.flags.items ≡ length l.initial.flags.items;
  flags : (n : ℕ) → n < length l.initial.flags.items → get_or l.flags.items n false
      ≡ (if nat_le l.first n && nat_lt n l.token then true else get_or l.initial.flags.items n false);
}
