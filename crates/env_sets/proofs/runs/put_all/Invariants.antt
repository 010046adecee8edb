use Rattle.std.proofs.Common.{◌≡◌, ◌++◌, take}
use Rattle.env_sets.proofs.runs.put_all.Given as goal

abbrev pub invariant-loop-v : goal.invariant-loop-v
invariant-loop-v l = l.out.items ≡ l.initial.out.items ++ take l.v-index l.items
