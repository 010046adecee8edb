use Rattle.std.proofs.Common.{◌≡◌, ◌≤◌, ◌++◌, drop, length}
use Rattle.edit_unparse.specs.Tidy.Text.{token_pieces}
use Rattle.edit_unparse.proofs.tidy.joints.token_pieces.Given as goal

abbrev pub invariant-loop-i : goal.invariant-loop-i
invariant-loop-i l = record {
  all : l.pieces.items ++ token_pieces l.i (drop l.i l.lexed) ≡ token_pieces 0 l.lexed;
  few : length l.pieces.items ≤ l.i;
}
