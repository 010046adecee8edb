use Rattle.std.proofs.Common.{◌≡◌, ◌++◌}
use Rattle.env_sets.proofs.sets.with_all.Given as goal

abbrev pub invariant-loop-e : goal.invariant-loop-e
invariant-loop-e l = l.entries.items ≡ l.initial.entries.items ++ l.yielded
