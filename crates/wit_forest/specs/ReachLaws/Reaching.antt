-- Walks that reach a node through nodes that pass.
use Rattle.std.specs.Prelude.{◌≡◌, ℕ, Bool, true, List, ◌∷◌}
use Rattle.cfg_build.specs.CfgGraph.Flow.{Flow}
use Rattle.cfg_build.specs.CfgGraph.Walks.{IsWalk}
use Rattle.ctl_fixpoint.specs.CtlHolds.Untils.{EndsIn}

-- some walk from s ends at n, and each node before its last one passes the test
abbrev pub Comes : Flow → (ℕ → Bool) → ℕ → ℕ → Type 0
Comes g test s n = (walk : List ℕ) × IsWalk g (s ∷ walk) × EndsIn (λ k. test k ≡ true) (λ k. k ≡ n) s walk
