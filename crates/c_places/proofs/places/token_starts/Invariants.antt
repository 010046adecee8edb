use Rattle.std.proofs.Common.{◌≡◌, ◌++◌, drop, length}
use Rattle.c_places.specs.Starts.{starts_from, token_starts}
use Rattle.c_places.proofs.places.token_starts.Given as goal

abbrev pub invariant-loop-i : goal.invariant-loop-i
invariant-loop-i l = record {
  end : l.i-end ≡ length l.lexed;
  so_far : l.starts ++ starts_from l.lexed l.i (drop l.i l.lexed) ≡ token_starts l.lexed;
}
