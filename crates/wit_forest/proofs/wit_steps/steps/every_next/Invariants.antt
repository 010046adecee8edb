use Rattle.std.proofs.Common.{◌≡◌, map, take}
use Rattle.wit_forest.proofs.wit_steps.steps.every_next.Given as goal

abbrev pub invariant-loop-k : goal.invariant-loop-k
invariant-loop-k l = l.kids.items ≡ map (λ k. (l.part, k)) (take l.k-index l.next)
