use Rattle.std.proofs.Common.{◌≡◌, ◌++◌, take}
use Rattle.env_sets.proofs.blocks.put_entries.Given as goal

abbrev pub invariant-loop-e : goal.invariant-loop-e
invariant-loop-e l = l.out.items ≡ l.initial.out.items ++ take l.e-index l.entries
