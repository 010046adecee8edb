use Rattle.std.proofs.Common.{take}
use Rattle.std.specs.List.{list_any}
use Rattle.edit_marks.specs.Tidy.Bodies.{AddsFlags, acts_in, is_one, stays_of}
use Rattle.edit_marks.proofs.tidy.bodies.staying.Given as goal

abbrev pub invariant-loop-body : goal.invariant-loop-body
invariant-loop-body l = AddsFlags l.initial.stays.items l.stays.items
    (λ n. list_any (λ b. is_one (stays_of (acts_in l.changes) l.outline.leaves.items b) n) (take l.body-index l.body-items))
