use Rattle.std.proofs.Common.{◌≡◌, drop}
use Rattle.wit_forest.specs.WitSteps.Choices.{own_value}
use Rattle.wit_forest.proofs.wit_steps.values.own_value.Given as goal

abbrev pub invariant-loop-p : goal.invariant-loop-p
invariant-loop-p l = own_value l.x l.pairs ≡ own_value l.x (drop l.p-index l.pairs)
