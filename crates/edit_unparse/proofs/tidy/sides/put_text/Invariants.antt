use Rattle.std.proofs.Common.{◌≡◌, ◌≤◌, ◌-◌, ◌++◌, List, drop, length}
use Rattle.std.specs.Prelude.{Some}
use Rattle.c_lexer.specs.Pieces.{TextPiece}
use Rattle.edit_unparse.specs.declared.tidy.parts.Origin.{Origin}
use Rattle.edit_unparse.specs.Output.{new_parts}
use Rattle.edit_unparse.specs.Tidy.Fallen.{origins_from}
use Rattle.edit_unparse.specs.Tidy.Made.{origins_in, parts_in}
use Rattle.edit_unparse.proofs.tidy.sides.put_text.Given as goal

abbrev pub invariant-loop-at : goal.invariant-loop-at
invariant-loop-at l = record {
  within : l.at ≤ length l.text;
  parts : (pieces : List TextPiece) → parts_in pieces l.made.items ++ new_parts (drop l.at l.text) ≡ parts_in pieces l.initial.made.items ++ new_parts l.text;
  origins : (o : Origin) → l.origin ≡ Some o → origins_in l.made.items ++ origins_from o.edit o.insert l.at (new_parts (drop l.at l.text))
      ≡ origins_in l.initial.made.items ++ origins_from o.edit o.insert 0 (new_parts l.text);
}

abbrev pub decreases-loop-at : goal.decreases-loop-at
decreases-loop-at l = length l.text - l.at
