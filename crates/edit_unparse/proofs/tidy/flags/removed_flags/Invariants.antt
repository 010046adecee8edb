use Rattle.std.proofs.Common.{◌≡◌, ◌<◌, ℕ, false, length, get_or, take}
use Rattle.std.specs.List.{list_any}
use Rattle.edit_marks.specs.EditConflict.Clashes.{removes}
use Rattle.edit_unparse.proofs.tidy.flags.removed_flags.Given as goal

abbrev pub invariant-loop-edit : goal.invariant-loop-edit
invariant-loop-edit l = record {
  len : length l.flags.items ≡ l.count;
  flags : (n : ℕ) → n < l.count → get_or l.flags.items n false ≡ list_any (removes n) (take l.edit-index l.edits);
}
