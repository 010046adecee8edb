use Rattle.std.proofs.Common.{◌==◌, take}
use Rattle.std.specs.List.{list_any}
use Rattle.edit_marks.specs.Tidy.Bodies.{AddsFlags}
use Rattle.edit_marks.proofs.tidy.bodies.put_all.Given as goal

abbrev pub invariant-loop-token : goal.invariant-loop-token
invariant-loop-token l = AddsFlags l.initial.flags.items l.flags.items (λ n. list_any (λ m. m == n) (take l.token-index l.tokens))
