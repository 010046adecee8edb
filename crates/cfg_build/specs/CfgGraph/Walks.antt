-- Walks through a graph.
use Rattle.std.specs.Prelude.{ℕ, ◌<◌, List, [], ◌∷◌, Contains}
use Rattle.cfg_build.specs.CfgGraph.Flow.{Flow, count_of, succ_of}

-- each of the nodes is a successor of the one before it, and the first is one of n
abbrev pub Follows : Flow → ℕ → List ℕ → Type 0
Follows g n [] = Unit {0}
Follows g n (k ∷ walk) = Contains (succ_of g n) k × Follows g k walk

-- one or more nodes, each followed by one of its successors
abbrev pub IsWalk : Flow → List ℕ → Type 0
IsWalk g [] = ⊥
IsWalk g (n ∷ walk) = (n < count_of g) × Follows g n walk
