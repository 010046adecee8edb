use Rattle.std.proofs.Common.{◌==◌, take}
use Rattle.std.specs.List.{list_any}
use Rattle.edit_marks.specs.Tidy.Bodies.{AddsFlags, is_after, is_at}
use Rattle.edit_marks.proofs.tidy.bodies.changes_of.Given as goal

abbrev pub invariant-loop-touch : goal.invariant-loop-touch
invariant-loop-touch l = record {
  removed : AddsFlags l.initial.changes.removed.items l.changes.removed.items
      (λ n. list_any (λ t. list_any (λ m. m == n) t.edit.removed) (take l.touch-index l.touches));
  inserts : AddsFlags l.initial.changes.inserts.items l.changes.inserts.items (λ n. list_any (λ t. is_at t.edit.inserts n) (take l.touch-index l.touches));
  after : AddsFlags l.initial.changes.after.items l.changes.after.items (λ n. list_any (λ t. is_after t.edit.inserts n) (take l.touch-index l.touches));
}
