use Rattle.std.proofs.Common.{◌≡◌, length}
use Rattle.std.specs.List.{zip}
use Rattle.edit_marks.proofs.tidy.walk.zipped.Given as goal

abbrev pub invariant-loop-statement : goal.invariant-loop-statement
invariant-loop-statement l = record {
  at : l.at ≡ length l.yielded;
  pairs : l.pairs.items ≡ zip l.numbers l.yielded;
}
