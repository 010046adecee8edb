use Rattle.std.proofs.Common.{◌<◌, length, arith}
use Rattle.wit_forest.proofs.WitSteps.StepLemmas.{member}
use Rattle.wit_forest.proofs.wit_steps.steps.some_next.Goals as goal

pub put_held-requires-clause-node : goal.put_held-requires-clause-node
put_held-requires-clause-node c =
    let lt : c.loop-k.k-index < length c.args.next.now = omega arith in
    c.requires.nodes _ (member c.args.next.now c.loop-k.k-index lt)
