use Rattle.std.proofs.Common.{◌≡◌, ◌++◌, take}
use Rattle.env_sets.specs.Blocks.{all_entries}
use Rattle.env_sets.proofs.blocks.put_blocks.Given as goal

abbrev pub invariant-loop-block : goal.invariant-loop-block
invariant-loop-block l = l.out.items ≡ l.initial.out.items ++ all_entries (take l.block-index l.blocks)
