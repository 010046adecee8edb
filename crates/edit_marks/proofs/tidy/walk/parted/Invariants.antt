use Rattle.std.proofs.Common.{◌≡◌, map}
use Rattle.edit_marks.specs.Tidy.Bodies.{without_flagged}
use Rattle.edit_marks.proofs.tidy.walk.parted.Given as goal

abbrev pub invariant-loop-touch : goal.invariant-loop-touch
invariant-loop-touch l = record {
  edits : l.edits.items ≡ map (λ t. without_flagged l.stays t.edit) l.yielded;
  statements : l.statements.items ≡ map (λ t. t.statement) l.yielded;
}
