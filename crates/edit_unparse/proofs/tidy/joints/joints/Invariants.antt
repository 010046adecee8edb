use Rattle.std.proofs.Common.{◌≡◌, ◌+◌, ◌++◌, List, length, drop}
use Rattle.edit_marks.specs.declared.edit_conflict.edit.Edit.{Edit}
use Rattle.edit_unparse.specs.declared.tidy.flags.Extent.{Extent}
use Rattle.edit_unparse.specs.Tidy.Places.{joints, joints_from}
use Rattle.edit_unparse.specs.Tidy.Text.{token_pieces}
use Rattle.edit_unparse.specs.Tidy.Flags.{IsOwners}
use Rattle.edit_unparse.proofs.tidy.joints.joints.Given as goal

abbrev pub invariant-loop-i : goal.invariant-loop-i
invariant-loop-i l = record {
  few : length l.joined.items + length (token_pieces l.i (drop l.i l.lexed)) ≡ length (token_pieces 0 l.lexed);
  joined : (edits : List Edit) (gone : List Extent) → IsOwners (length (token_pieces 0 l.lexed)) edits gone l.owners
      → l.joined.items ++ joints_from edits gone (length l.joined.items) l.is_plain (drop l.i l.lexed) ≡ joints edits gone l.lexed;
}
