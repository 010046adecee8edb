use Rattle.std.proofs.Common.{◌≡◌, ◌||◌, ◌++◌, take}
use Rattle.smpl_terms.specs.Environments.{Environment}
use Rattle.env_sets.specs.Sets.{set_denotes}
use Rattle.env_sets.specs.Blocks.{all_entries}
use Rattle.env_sets.proofs.same.same_blocks.Given as goal

abbrev pub invariant-loop-block : goal.invariant-loop-block
invariant-loop-block l = (env : Environment)
    → set_denotes (l.es ++ all_entries l.others) env
    ≡ (set_denotes (all_entries (take l.block-index l.blocks)) env || set_denotes (l.left ++ all_entries l.rest) env)
