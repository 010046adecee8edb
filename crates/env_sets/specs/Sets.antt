-- What entries and sets stand for, and which variables they have.
use Rattle.std.specs.Prelude.{◌≡◌, Bool, true, false, Option, Some, None, List}
use Rattle.std.specs.List.{list_any, list_all}
use Rattle.smpl_terms.specs.declared.var.Var.{Var}
use Rattle.smpl_terms.specs.declared.value.Value.{Value}
use Rattle.smpl_terms.specs.Environments.{Environment}
use Rattle.env_sets.specs.declared.bounds.Bound.{Bound}
use Rattle.env_sets.specs.Bounds.{fits}

-- the entries of a set
abbrev pub Entries : Type 0
Entries = List (List (Var × Bound))

-- each variable of the entry has a value that its bound allows
abbrev pub entry_denotes : List (Var × Bound) → Environment → Bool
entry_denotes pairs env = list_all (λ p. fits (env p.0) p.1) pairs

abbrev pub option_denotes : Option (List (Var × Bound)) → Environment → Bool
option_denotes None env = false
option_denotes (Some pairs) env = entry_denotes pairs env

-- some entry stands for the environment
abbrev pub set_denotes : List (List (Var × Bound)) → Environment → Bool
set_denotes entries env = list_any (λ e. entry_denotes e env) entries

-- each variable passes the test
abbrev pub entry_vars : (Var → Bool) → List (Var × Bound) → Bool
entry_vars test pairs = list_all (λ p. test p.0) pairs

abbrev pub option_vars : (Var → Bool) → Option (List (Var × Bound)) → Bool
option_vars test None = true
option_vars test (Some pairs) = entry_vars test pairs

abbrev pub set_vars : (Var → Bool) → List (List (Var × Bound)) → Bool
set_vars test entries = list_all (λ e. entry_vars test e) entries

-- the test passes for some value, in the file or not
abbrev pub ForSomeValue : (Value → Bool) → Type 0
ForSomeValue test = (v : Value) × (test v ≡ true)
