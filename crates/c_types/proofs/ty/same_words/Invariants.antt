use Rattle.std.proofs.Common.{◌≡◌, length, drop}
use Rattle.c_types.specs.Types.{same_words}
use Rattle.c_types.proofs.ty.same_words.Given as goal

abbrev pub invariant-loop-i : goal.invariant-loop-i
invariant-loop-i l = record { even : length l.a ≡ length l.b; rest : same_words (drop l.i l.a) (drop l.i l.b) ≡ same_words l.a l.b }
