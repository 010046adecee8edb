use Rattle.std.proofs.Common.{◌≡◌, ◌++◌, List, [], drop}
use Rattle.c_lexer.specs.Pieces.{TextPiece}
use Rattle.edit_unparse.specs.Output.{added}
use Rattle.edit_unparse.specs.Tidy.Made.{parts_in}
use Rattle.edit_unparse.specs.Tidy.Text.{braces_among}
use Rattle.edit_unparse.proofs.tidy.sides.put_braces.Given as goal

abbrev pub invariant-loop-brace : goal.invariant-loop-brace
invariant-loop-brace l = record {
  parts : (pieces : List TextPiece) → parts_in pieces l.made.items ++ added (braces_among (drop l.brace-index l.braces) l.count)
      ≡ parts_in pieces l.initial.made.items ++ added (braces_among l.braces l.count);
  none : l.braces ≡ [] → l.made.items ≡ l.initial.made.items;
}
