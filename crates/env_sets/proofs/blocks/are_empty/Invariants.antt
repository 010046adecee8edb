use Rattle.std.proofs.Common.{◌≡◌, [], take}
use Rattle.env_sets.specs.Blocks.{all_entries}
use Rattle.env_sets.proofs.blocks.are_empty.Given as goal

abbrev pub invariant-loop-block : goal.invariant-loop-block
invariant-loop-block l = all_entries (take l.block-index l.blocks) ≡ []
