use Rattle.std.proofs.Common.{◌≡◌, ◌++◌, drop}
use Rattle.smpl_meta.proofs.earlier.Earlier.of.Given as goal

abbrev pub invariant-loop-v : goal.invariant-loop-v
invariant-loop-v l = l.names ++ drop l.v-index l.virtuals ≡ l.virtuals
