use Rattle.std.proofs.Common.{◌≡◌, ◌++◌, false, drop, get_or}
use Rattle.std.specs.Prelude.{filter, not}
use Rattle.edit_marks.proofs.tidy.bodies.removed_without.Given as goal

abbrev pub invariant-loop-token : goal.invariant-loop-token
invariant-loop-token l =
    l.left.items ++ filter (λ n. not (get_or l.stays n false)) (drop l.token-index l.removed) ≡ filter (λ n. not (get_or l.stays n false)) l.removed
