use Rattle.iso_file.specs.Stepped.{IsUnbroken}
use Rattle.iso_file.proofs.lost.first_break.Given as goal

abbrev pub invariant-loop-i : goal.invariant-loop-i
invariant-loop-i l = IsUnbroken l.vars l.sides l.both l.i
