use Rattle.std.proofs.Common.{◌≡◌, ◌≤◌, length, reverse}
use Rattle.c_lexer.specs.Pieces.{most_bytes}
use Rattle.cpp_lines.proofs.Progress.{Progress}
use Rattle.cpp_lines.proofs.shown.shown_tokens.Given as goal

abbrev pub invariant-loop-i : goal.invariant-loop-i
invariant-loop-i l = record {
  end : l.i-end ≡ length l.lexed;
  short : l.i-end ≤ most_bytes;
  depth : l.mask.depth ≤ l.i;
  so_far : Progress l.lexed l.i (reverse l.groups.items) l.mask l.shown.items;
}
