use Rattle.std.proofs.Common.{◌≡◌, ◌<◌, ℕ, false, length, get_or, take}
use Rattle.std.specs.List.{list_any}
use Rattle.edit_unparse.specs.Tidy.Flags.{removes_both}
use Rattle.edit_unparse.proofs.tidy.flags.shared_flags.Given as goal

abbrev pub invariant-loop-edit : goal.invariant-loop-edit
invariant-loop-edit l = record {
  own_len : length l.own.items ≡ l.count;
  own : (n : ℕ) → n < l.count → get_or l.own.items n false ≡ false;
  len : length l.flags.items ≡ l.count;
  flags : (n : ℕ) → n < l.count → get_or l.flags.items n false ≡ list_any (removes_both n) (take l.edit-index l.edits);
}
