-- That something can't be absent, without naming it.

-- that there is none is absurd
abbrev pub Weakly : Type 0 → Type 0
Weakly A = (A → ⊥) → ⊥
