use Rattle.std.proofs.Common.{◌≡◌, drop, true}
use Rattle.iso_file.specs.Sides.{are_of_kinds}
use Rattle.iso_file.proofs.vars.are_of_kinds.Given as goal

abbrev pub invariant-loop-t : goal.invariant-loop-t
invariant-loop-t l = are_of_kinds l.begins (drop l.t-index l.tokens) ≡ are_of_kinds true l.tokens
