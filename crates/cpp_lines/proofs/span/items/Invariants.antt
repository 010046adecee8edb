use Rattle.std.proofs.Common.{◌≤◌, length, map}
use Rattle.c_lexer.specs.Pieces.{most_bytes}
use Rattle.cpp_lines.specs.Visible.{sign_at}
use Rattle.cpp_lines.proofs.ItemProgress.{ItemProgress}
use Rattle.cpp_lines.proofs.span.items.Given as goal

abbrev pub invariant-loop-number : goal.invariant-loop-number
invariant-loop-number l = record {
  short : length l.shown ≤ most_bytes;
  depth : l.item.depth ≤ l.number;
  start : l.first ≤ l.number;
  so_far : ItemProgress (map (sign_at l.visible.pieces) l.shown) l.number l.first l.item l.spans.items;
}
