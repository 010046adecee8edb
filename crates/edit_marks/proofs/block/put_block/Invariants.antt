use Rattle.std.proofs.Common.{◌≡◌, ◌++◌, drop}
use Rattle.edit_marks.specs.Blocks.{rest_lines, lines_text, last_of_lines, AreEven}
use Rattle.edit_marks.proofs.block.put_block.Given as goal

abbrev pub invariant-loop-i : goal.invariant-loop-i
invariant-loop-i l = record {
  even : AreEven (drop l.i l.lines);
  written : l.out.items ++ rest_lines l.decls l.env l.lead l.joint l.i (drop l.i l.lines) ≡ l.initial.out.items
      ++ lines_text l.decls l.env l.lead l.joint l.lines;
  last : last_of_lines l.decls l.env l.last (drop l.i l.lines) ≡ last_of_lines l.decls l.env l.initial.last l.lines;
}
