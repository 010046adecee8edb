use Rattle.std.proofs.Common.{◌≡◌, take, length}
use Rattle.c_terms.proofs.text.keep_inline.Given as goal

abbrev pub invariant-loop-i : goal.invariant-loop-i
invariant-loop-i l = record { room : length l.kept ≡ 15; same : take l.i l.kept ≡ take l.i l.bytes }
