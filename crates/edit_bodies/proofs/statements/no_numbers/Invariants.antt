use Rattle.std.proofs.Common.{◌≡◌, ℕ, [], get_or}
use Rattle.edit_bodies.proofs.statements.no_numbers.Given as goal

abbrev pub invariant-loop-i : goal.invariant-loop-i
invariant-loop-i l = (n : ℕ) → get_or l.all.items n [] ≡ []
