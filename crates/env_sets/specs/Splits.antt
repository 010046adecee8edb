-- How a set splits on the values of one variable.
use Rattle.std.specs.Prelude.{◌≡◌, Bool, true, false, ◌||◌, not, cond, Option, Some, None, List, [], ◌∷◌, ℕ, ◌+◌, ◌<◌, length, slice_index_or}
use Rattle.std.specs.List.{list_all, list_any, filter}
use Rattle.smpl_terms.specs.declared.var.Var.{Var}
use Rattle.smpl_terms.specs.declared.value.Value.{Value}
use Rattle.smpl_terms.specs.Values.{same}
use Rattle.smpl_terms.specs.Vars.{same_var, has_pair}
use Rattle.smpl_terms.specs.Environments.{Environment}
use Rattle.env_sets.specs.declared.bounds.Bound.{Bound}
use Rattle.env_sets.specs.Bounds.{fits, is_not}
use Rattle.env_sets.specs.Sets.{Entries, set_denotes, set_vars}

-- the bound allows the value, if there is one
abbrev pub fits_if : Option Value → Bound → Bool
fits_if None b = true
fits_if (Some v) b = fits v b

-- each bound of x passes the test
abbrev pub passes : Var → (Bound → Bool) → List (Var × Bound) → Bool
passes x test pairs = list_all (λ p. not (same_var p.0 x) || test p.1) pairs

abbrev pub without : Var → List (Var × Bound) → List (Var × Bound)
without x pairs = filter (λ p. not (same_var p.0 x)) pairs

-- the entries whose bound of x passes the test, without it
abbrev pub restricted : Var → (Bound → Bool) → List (List (Var × Bound)) → List (List (Var × Bound))
restricted x test [] = []
restricted x test (e ∷ es) = cond (passes x test e) (without x e ∷ restricted x test es) (restricted x test es)

-- the number of bounds of all entries
abbrev pub size_of : List (List (Var × Bound)) → ℕ
size_of [] = 0
size_of (e ∷ es) = length e + size_of es

-- some entry bounds x
abbrev pub occurs : Var → List (List (Var × Bound)) → Bool
occurs x es = list_any (λ e. has_pair e x) es

-- both tests give the same answer
abbrev pub agree : Bool → Bool → Bool
agree true b = b
agree false b = not b

-- the bounds of x allow z exactly if they exclude values
abbrev pub is_unnamed : Var → Value → List (Var × Bound) → Bool
is_unnamed x z pairs = passes x (λ b. agree (is_not b) (fits z b)) pairs

abbrev pub none_named : Var → Value → List (List (Var × Bound)) → Bool
none_named x z entries = list_all (is_unnamed x z) entries

-- for each of the values, the entries that allow it at x, without x
abbrev pub AreRestrictions : Var → List Value → List (List (Var × Bound)) → List (List (List (Var × Bound))) → Type 0
AreRestrictions x values es parts = (length parts ≡ length values)
    × ((k : ℕ) (v : Value) → k < length values → v ≡ slice_index_or values k v → slice_index_or parts k [] ≡ restricted x (fits v) es)

-- the value is fixed by some entries, or others allow it at x
abbrev pub are_allowed : Var → Value → List Value → List (List (Var × Bound)) → Bool
are_allowed x v fixed others = list_any (λ w. same w v) fixed || list_any (λ e. passes x (fits v) e) others

-- if x is one of the values, the set is its group and the others; otherwise it is the others
abbrev pub AreGroupsOf : Var → List Value → Entries → List Entries → Entries → Type 0
AreGroupsOf x values es groups others = (length groups ≡ length values)
    × (((env : Environment) (k : ℕ) (v : Value) → k < length values → v ≡ slice_index_or values k v → same v (env x) ≡ true
    → set_denotes es env ≡ (set_denotes (slice_index_or groups k []) env || set_denotes others env))
    × ((env : Environment) → list_any (λ w. same w (env x)) values ≡ false → set_denotes es env ≡ set_denotes others env))

-- each variable passes the test
abbrev pub HaveVars : (Var → Bool) → List Entries → Entries → Type 0
HaveVars test groups others = ((k : ℕ) → set_vars test (slice_index_or groups k []) ≡ true) × (set_vars test others ≡ true)
