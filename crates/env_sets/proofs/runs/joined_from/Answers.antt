use Rattle.std.proofs.Common.{◌-◌, sym, subst, arith}
use Rattle.env_sets.specs.Rising.{Rise}
use Rattle.env_sets.proofs.RunLemmas.{AllRise-at}
use Rattle.env_sets.proofs.runs.joined_from.Goals as goal

pub merged-requires-clause-few : goal.merged-requires-clause-few
merged-requires-clause-few c =
    subst Rise (sym c.as_slice.ensures.items)
    (AllRise-at (c.loop-i.i - 1) c.args.runs.now c.index-runs-i.result c.requires.rise (omega arith) c.index-runs-i.is)
