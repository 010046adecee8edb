use Rattle.std.proofs.Common.{◌≡◌, ◌++◌, drop, length}
use Rattle.edit_marks.specs.Tidy.Edits.{tidy_inserts, touch_of}
use Rattle.edit_marks.proofs.tidy.edit.inserts_of.Given as goal

abbrev pub invariant-loop-number : goal.invariant-loop-number
invariant-loop-number l = record {
  end : l.number-end ≡ length l.blocks;
  written : l.inserts.items ++ tidy_inserts l.at.ids.now l.at.files.now (touch_of l.at) l.removed l.blocks l.number (drop l.number l.blocks)
      ≡ tidy_inserts l.at.ids.now l.at.files.now (touch_of l.at) l.removed l.blocks 0 l.blocks;
}
