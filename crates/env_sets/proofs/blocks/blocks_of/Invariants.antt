use Rattle.std.proofs.Common.{◌≡◌, ◌++◌}
use Rattle.env_sets.specs.Blocks.{all_entries}
use Rattle.env_sets.proofs.blocks.blocks_of.Given as goal

abbrev pub invariant-loop-e : goal.invariant-loop-e
invariant-loop-e l = all_entries l.blocks.items ++ l.block.items ≡ l.yielded
