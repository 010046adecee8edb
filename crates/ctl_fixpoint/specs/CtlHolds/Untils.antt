-- Walks from a node, and what an until requires of them.
use Rattle.std.specs.Prelude.{◌≡◌, ℕ, ◌≤◌, ◌⊎◌, List, [], ◌∷◌, length}
use Rattle.cfg_build.specs.CfgGraph.Flow.{Flow}
use Rattle.cfg_build.specs.CfgGraph.Walks.{IsWalk}

-- on the walk of n and the nodes after it, Q holds at the last node and P at all earlier ones
abbrev pub EndsIn : (ℕ → Type 0) → (ℕ → Type 0) → ℕ → List ℕ → Type 0
EndsIn P Q n [] = Q n
EndsIn P Q n (k ∷ walk) = P n × EndsIn P Q k walk

-- Q holds at some node, and P at all earlier ones
abbrev pub Reaches : (ℕ → Type 0) → (ℕ → Type 0) → ℕ → List ℕ → Type 0
Reaches P Q n [] = Q n
Reaches P Q n (k ∷ walk) = Q n ⊎ (P n × Reaches P Q k walk)

-- E[P U Q]: some walk from s of at most m nodes ends at a node where Q holds, and P holds before it
abbrev pub SomeWalk : Flow → ℕ → (ℕ → Type 0) → (ℕ → Type 0) → ℕ → Type 0
SomeWalk g m P Q s = (walk : List ℕ) × IsWalk g (s ∷ walk) × (length (s ∷ walk) ≤ m) × EndsIn P Q s walk

-- A[P U Q]: every walk from s of exactly m nodes reaches a node where Q holds, and P holds before it
abbrev pub EveryWalk : Flow → ℕ → (ℕ → Type 0) → (ℕ → Type 0) → ℕ → Type 0
EveryWalk g m P Q s = (walk : List ℕ) → IsWalk g (s ∷ walk) → length (s ∷ walk) ≡ m → Reaches P Q s walk
