use Rattle.std.proofs.Common.{◌≡◌, ℕ, [], get_or}
use Rattle.edit_bodies.proofs.braces.no_places.Given as goal

abbrev pub invariant-loop-i : goal.invariant-loop-i
invariant-loop-i l = (n : ℕ) → get_or l.places.items n [] ≡ []
