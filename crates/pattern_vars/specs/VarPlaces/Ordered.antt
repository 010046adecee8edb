-- Places at which a list has variables.
use Rattle.std.specs.Prelude.{◌≡◌, ℕ, Bool, true, false, nat_eq, Option, None, Some, List, length, slice_get}
use Rattle.std.specs.List.{list_any}
use Rattle.smpl_terms.specs.declared.var.Var.{Var}
use Rattle.pattern_vars.specs.Reads.{number_of, is_number}

-- the variable has this number
abbrev pub has_number : List Var → ℕ → Var → Bool
has_number numbers i x = is_number (number_of numbers x) i

-- there is a variable, and it passes the test
abbrev pub passes : (Var → Bool) → Option Var → Bool
passes test None = false
passes test (Some x) = test x

-- the numbers of the variables are their places in the list, and each variable is in the list once
pub record IsNumbered (numbers vars : List Var) : Type 0 where
  pub count : length numbers ≡ length vars
  pub each : (i : ℕ) (x : Var) → slice_get vars i ≡ Some x → has_number numbers i x ≡ true

-- these are the places at which the list has a variable that passes the test
abbrev pub ArePlaces : (Var → Bool) → List Var → List ℕ → Type 0
ArePlaces test vars places = (i : ℕ) → list_any (nat_eq i) places ≡ passes test (slice_get vars i)
