use Rattle.std.proofs.Common.{◌≡◌, ◌≤◌, ◌++◌, length, drop}
use Rattle.c_lexer.specs.Ids.{ids_of}
use Rattle.edit_marks.proofs.edit_walk.tokens.token_ids.Given as goal

abbrev pub invariant-loop-i : goal.invariant-loop-i
invariant-loop-i l = record {
  ids : l.ids.items ++ ids_of (drop l.i l.lexed) ≡ ids_of l.lexed;
  few : length l.ids.items ≤ l.i;
}
