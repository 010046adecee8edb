use Rattle.std.proofs.Common.{◌≡◌, drop}
use Rattle.smpl_terms.specs.Environments.{total}
use Rattle.env_sets.specs.Ascending.{side}
use Rattle.env_sets.proofs.ascending.entry_side.Given as goal

abbrev pub invariant-loop-i : goal.invariant-loop-i
invariant-loop-i l = side l.pairs (total l.env) ≡ side (drop l.i l.pairs) (total l.env)
