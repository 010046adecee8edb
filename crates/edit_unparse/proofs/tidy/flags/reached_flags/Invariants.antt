use Rattle.std.proofs.Common.{◌≡◌, ◌<◌, ℕ, false, length, get_or, take}
use Rattle.std.specs.List.{list_any}
use Rattle.edit_unparse.specs.Tidy.Flags.{reaches}
use Rattle.edit_unparse.proofs.tidy.flags.reached_flags.Given as goal

abbrev pub invariant-loop-extent : goal.invariant-loop-extent
invariant-loop-extent l = record {
  len : length l.flags.items ≡ l.count;
  flags : (n : ℕ) → n < l.count → get_or l.flags.items n false ≡ list_any (reaches n) (take l.extent-index l.gone);
}
