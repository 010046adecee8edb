use Rattle.std.proofs.Common.{◌≡◌, take}
use Rattle.std.specs.List.{flat_map}
use Rattle.smpl_terms.specs.Environments.{total}
use Rattle.wit_forest.specs.WitSteps.Steps.{held, told}
use Rattle.wit_forest.proofs.wit_steps.steps.some_next.Given as goal

abbrev pub invariant-loop-k : goal.invariant-loop-k
invariant-loop-k l = l.kids.items ≡ flat_map (held l.g (told l.sets (total l.env)) l.part) (take l.k-index l.next)
