use Rattle.std.proofs.Common.{◌≡◌, ◌++◌, drop, take}
use Rattle.tidy_flags.specs.Clearing.{blank_flags}
use Rattle.tidy_flags.proofs.clear.clear_blanks.Given as goal

abbrev pub invariant-loop-at : goal.invariant-loop-at
invariant-loop-at l = take l.at l.stays ++ blank_flags (drop l.at l.signs) (drop l.at l.stays) ≡ blank_flags l.signs l.initial.stays
