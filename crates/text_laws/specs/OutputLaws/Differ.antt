-- Ids that differ.
use Rattle.std.specs.Prelude.{ℕ, ◌≡◌, List, [], ◌∷◌, All}

-- no two are equal
abbrev pub AllDiffer : List ℕ → Type 0
AllDiffer [] = Unit {0}
AllDiffer (id ∷ ids) = All (λ other. id ≡ other → ⊥) ids × AllDiffer ids
