use Rattle.std.proofs.Common.{◌≡◌, ◌++◌, take}
use Rattle.env_sets.proofs.blocks.put_shares.Given as goal

abbrev pub invariant-loop-block : goal.invariant-loop-block
invariant-loop-block l = l.out.items ≡ l.initial.out.items ++ take l.block-index l.blocks
