use Rattle.std.proofs.Common.{◌≡◌, ◌≤◌, ◌++◌, List, [], drop}
use Rattle.c_lexer.specs.Pieces.{TextPiece}
use Rattle.edit_unparse.specs.Output.{added}
use Rattle.edit_unparse.specs.Tidy.Fallen.{insert_origins}
use Rattle.edit_unparse.specs.Tidy.Made.{origins_in, parts_in}
use Rattle.edit_unparse.specs.Tidy.Spots.{placed_texts}
use Rattle.edit_unparse.specs.Tidy.Text.{behind}
use Rattle.edit_unparse.proofs.tidy.sides.put_side.Given as goal

abbrev pub invariant-loop-placed : goal.invariant-loop-placed
invariant-loop-placed l = record {
  few : l.count ≤ l.placed-index;
  parts : (pieces : List TextPiece) → parts_in pieces l.made.items ++ added (behind l.braces l.count (placed_texts l.edits (drop l.placed-index l.inserts)))
      ≡ parts_in pieces l.initial.made.items ++ added (behind l.braces 0 (placed_texts l.edits l.inserts));
  origins : l.braces ≡ [] → origins_in l.made.items ++ insert_origins l.edits (drop l.placed-index l.inserts)
      ≡ origins_in l.initial.made.items ++ insert_origins l.edits l.inserts;
}
