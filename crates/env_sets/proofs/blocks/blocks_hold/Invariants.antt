use Rattle.std.proofs.Common.{◌≡◌, false, take}
use Rattle.smpl_terms.specs.Environments.{total}
use Rattle.env_sets.specs.Sets.{set_denotes}
use Rattle.env_sets.specs.Blocks.{all_entries}
use Rattle.env_sets.proofs.blocks.blocks_hold.Given as goal

abbrev pub invariant-loop-i : goal.invariant-loop-i
invariant-loop-i l = set_denotes (all_entries (take l.i l.blocks)) (total l.env) ≡ false
