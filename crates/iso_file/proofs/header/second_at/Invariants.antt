use Rattle.std.proofs.Common.{◌≡◌, ◌+◌, drop}
use Rattle.std.specs.Prelude.{option_map}
use Rattle.iso_file.specs.Sides.{second_at}
use Rattle.iso_file.proofs.header.second_at.Given as goal

abbrev pub invariant-loop-i : goal.invariant-loop-i
invariant-loop-i l = option_map (λ n. n + l.i) (second_at (drop l.i l.lines)) ≡ second_at l.lines
