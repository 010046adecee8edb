-- Entries in the order of the values that they fix, so that binary search finds those near an environment's values.
use Rattle.std.specs.Prelude.{ℕ, ◌≡◌, ◌≤◌, List, [], ◌∷◌, length, drop}
use Rattle.std.specs.declared.cmp.Ordering.{Ordering}
use Rattle.std.specs.declared.cmp.Ordering.TheVariants.{Less, Equal, Greater}
use Rattle.std.specs.Ordering.{ordering_then}
use Rattle.smpl_terms.specs.declared.var.Var.{Var}
use Rattle.smpl_terms.specs.declared.value.Value.{Value}
use Rattle.smpl_terms.specs.Values.{value_order}
use Rattle.smpl_terms.specs.Environments.{Environment}
use Rattle.env_sets.specs.declared.bounds.Bound.{Bound}
use Rattle.env_sets.specs.declared.bounds.Bound.TheVariants.{Is, Not}

-- a fixed value is before that of the variable or after it, or else the rest decides; excluded values end the comparison
abbrev pub bound_side : Bound → Value → Ordering → Ordering
bound_side (Is v) x rest = ordering_then (value_order v x) rest
bound_side (Not vs) x rest = Equal

-- whether an entry is before an environment, after it or beside it: by the first fixed value that is not the variable's
abbrev pub side : List (Var × Bound) → Environment → Ordering
side [] env = Equal
side (p ∷ ps) env = bound_side p.1 (env p.0) (side ps env)

-- in Less < Equal < Greater the first is not after the second
abbrev pub NoLater : Ordering → Ordering → Type 0
NoLater o p = (p ≡ Less → o ≡ Less) × (o ≡ Greater → p ≡ Greater)

-- b may follow a, whatever the environment
abbrev pub MayFollow : List (Var × Bound) → List (Var × Bound) → Type 0
MayFollow a b = (env : Environment) → NoLater (side a env) (side b env)

-- the first of these entries, if there is one, may follow a
abbrev pub FirstMayFollow : List (Var × Bound) → List (List (Var × Bound)) → Type 0
FirstMayFollow a [] = Unit {0}
FirstMayFollow a (b ∷ es) = MayFollow a b

-- each entry may follow the one before it
abbrev pub Ascend : List (List (Var × Bound)) → Type 0
Ascend [] = Unit {0}
Ascend (e ∷ es) = FirstMayFollow e es × Ascend es

-- the entries ascend from this index on, which is at most their number
unfoldable pub IsInOrder : ℕ → List (List (Var × Bound)) → Type 0
IsInOrder from entries = (from ≤ length entries) × Ascend (drop from entries)
