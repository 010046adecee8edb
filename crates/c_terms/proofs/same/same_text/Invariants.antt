use Rattle.std.proofs.Common.{◌≡◌, length, drop}
use Rattle.c_terms.specs.Same.{same_bytes}
use Rattle.c_terms.proofs.same.same_text.Given as goal

abbrev pub invariant-loop-i : goal.invariant-loop-i
invariant-loop-i l = record { even : length l.a ≡ length l.b; rest : same_bytes (drop l.i l.a) (drop l.i l.b) ≡ same_bytes l.a l.b }
