use Rattle.std.proofs.Common.{◌≡◌, ◌≤◌, ◌-◌, false, length, take}
use Rattle.smpl_terms.specs.Environments.{total}
use Rattle.env_sets.specs.Sets.{set_denotes}
use Rattle.env_sets.specs.Blocks.{all_entries}
use Rattle.env_sets.proofs.blocks.first_block.Given as goal

abbrev pub invariant-loop-low : goal.invariant-loop-low
invariant-loop-low l = record {
  order : l.low ≤ l.high;
  within : l.high ≤ length l.blocks;
  front : set_denotes (all_entries (take l.low l.blocks)) (total l.env) ≡ false;
}

abbrev pub decreases-loop-low : goal.decreases-loop-low
decreases-loop-low l = l.high - l.low
