use Rattle.std.proofs.Common.{◌<◌, length, arith}
use Rattle.wit_forest.proofs.WitSteps.StepLemmas.{member}
use Rattle.wit_forest.proofs.wit_steps.steps.ways_on.Goals as goal

pub told-here-requires-clause-node : goal.told-here-requires-clause-node
told-here-requires-clause-node c =
    let lt : c.loop-k.k-index < length c.args.next.now = omega arith in
    c.requires.nodes _ (member c.args.next.now c.loop-k.k-index lt)
