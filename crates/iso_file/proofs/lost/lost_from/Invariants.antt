use Rattle.std.proofs.Common.{ℕ, ◌<◌}
use Rattle.iso_file.specs.Lost.{Loses}
use Rattle.iso_file.proofs.lost.lost_from.Given as goal

abbrev pub invariant-loop-j : goal.invariant-loop-j
invariant-loop-j l = (k at : ℕ) → k < l.j → Loses l.vars l.sides l.both l.i k at → ⊥
