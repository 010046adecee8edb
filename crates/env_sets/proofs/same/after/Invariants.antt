use Rattle.std.proofs.Common.{◌≡◌, ◌+◌, ◌||◌, ◌++◌, Bool, length}
use Rattle.smpl_terms.specs.Environments.{Environment}
use Rattle.env_sets.specs.Sets.{set_denotes}
use Rattle.env_sets.specs.Blocks.{all_entries}
use Rattle.env_sets.proofs.same.after.Given as goal

abbrev pub invariant-loop-own : goal.invariant-loop-own
invariant-loop-own l = (env : Environment) (r : Bool)
    → set_denotes (l.left ++ all_entries l.rest) env ≡ (set_denotes l.own env || r)
    → set_denotes (l.es ++ all_entries l.blocks) env ≡ (set_denotes l.entries env || r)

abbrev pub decreases-loop-own : goal.decreases-loop-own
decreases-loop-own l = length l.own + length l.rest
