use Rattle.std.proofs.Common.{◌≡◌, ◌≤◌, ◌++◌, [], drop, take, length}
use Rattle.c_lexer.specs.Pieces.{text_of}
use Rattle.edit_unparse.specs.Output.{added}
use Rattle.edit_unparse.specs.Tidy.Text.{tidy_placed}
use Rattle.edit_unparse.specs.Tidy.Plans.{placement_in}
use Rattle.edit_unparse.specs.Tidy.Fallen.{origins}
use Rattle.edit_unparse.specs.Tidy.Made.{origins_in, parts_in}
use Rattle.edit_unparse.proofs.tidy.pieces.parts_of.Given as goal

abbrev pub invariant-loop-i : goal.invariant-loop-i
invariant-loop-i l = record {
  number : l.here.number ≡ l.i;
  token : l.here.token ≤ l.i;
  at : l.here.at ≤ length (text_of (take l.i l.lexed));
  parts : parts_in l.lexed l.made.items
      ++ tidy_placed (placement_in l.edits l.plan) added l.braces (drop l.here.at l.sources.flags.now) l.here.token l.i (drop l.i l.lexed)
      ≡ tidy_placed (placement_in l.edits l.plan) added l.braces l.sources.flags.now 0 0 l.lexed;
  origins : l.braces ≡ [] → origins_in l.made.items ++ origins l.edits l.plan (drop l.here.at l.sources.flags.now) l.here.token l.i (drop l.i l.lexed)
      ≡ origins l.edits l.plan l.sources.flags.now 0 0 l.lexed;
}
