use Rattle.std.proofs.Common.{◌≡◌, ℕ, Bool, List, not, take}
use Rattle.std.specs.Prelude.{filter}
use Rattle.edit_bodies.specs.Gone.{AreCounts, is_gone}
use Rattle.edit_bodies.proofs.gone.gone_ranges.Given as goal

abbrev pub invariant-loop-range : goal.invariant-loop-range
invariant-loop-range l = (goes : ℕ → Bool) (leaves : List ℕ) → AreCounts (λ n. not (goes n)) leaves l.counts
    → l.gone.items ≡ filter (is_gone goes leaves) (take l.range-index l.ranges)
