use Rattle.std.proofs.Common.{◌≡◌, ◌<◌, ◌==◌, ◌&&◌, ℕ, true, false, length, get_or, take}
use Rattle.std.specs.Prelude.{if◌then◌else◌}
use Rattle.std.specs.List.{list_any}
use Rattle.tidy_flags.specs.Flags.{flag_before}
use Rattle.tidy_flags.proofs.flags.put_pairs.Given as goal

abbrev pub invariant-loop-token : goal.invariant-loop-token
invariant-loop-token l = record {
  len : length l.flags.items ≡ length l.initial.flags.items;
  flags : (n : ℕ) → n < length l.initial.flags.items → get_or l.flags.items n false
      ≡ (if list_any (λ t. t == n) (take l.token-index l.tokens) && flag_before l.own n then true else get_or l.initial.flags.items n false);
}
