-- What precedes a rule.
use Rattle.std.specs.Prelude.{ℕ, List, [], ◌∷◌, ◌++◌, map}
use Rattle.smpl_meta.specs.declared.head.RuleHead.{RuleHead}

-- the names of `virtual` lines, and the heads of earlier rules
pub record Before : Type 0 where
  pub virtuals : List (List ℕ)
  pub heads : List RuleHead

-- no rule precedes
abbrev pub first_under : List (List ℕ) → Before
first_under virtuals = record { virtuals = virtuals; heads = [] }

-- one more rule
abbrev pub with_head : Before → RuleHead → Before
with_head b h = record { virtuals = b.virtuals; heads = b.heads ++ h ∷ [] }

abbrev pub head_names : List RuleHead → List (List ℕ)
head_names heads = map (λ h. h.name) heads
