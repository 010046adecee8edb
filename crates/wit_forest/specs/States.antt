-- When two states are the same, and lists of states in the order in which they were added, each once.
use Rattle.std.specs.Prelude.{◌≡◌, ℕ, Bool, true, nat_eq, List, [], ◌∷◌, ◌++◌, if◌then◌else◌}
use Rattle.std.specs.List.{list_any, flat_map}
use Rattle.std.specs.Ordering.{on, eq_of_both}
use Rattle.std.specs.Hash as fed
use Rattle.smpl_terms.specs.declared.var.Var.{Var}
use Rattle.smpl_terms.specs.declared.value.Value.{Value}
use Rattle.smpl_terms.specs.declared.value.Value.TheVariants.{Term, Place}
use Rattle.env_parts.specs.Parts.{Pairs, same_env}
use Rattle.wit_forest.specs.declared.states.State.{State}

-- the same part at the same node under the same environment, ids aside
abbrev pub same_state : State → State → Bool
same_state = eq_of_both (on (λ s. s.part) nat_eq) (eq_of_both (on (λ s. s.node) nat_eq) (on (λ s. s.env) same_env))

-- the states, with this one appended unless it is already there
abbrev pub with_state : List State → State → List State
with_state states one = if list_any (same_state one) states then states else states ++ one ∷ []

-- the places of an environment, and nothing of its terms
abbrev pub value_input : Value → fed.HashWrites
value_input (Term t) = []
value_input (Place p) = fed.u64 p

abbrev pub env_input : Pairs → fed.HashWrites
env_input env = flat_map (λ p. value_input p.1) env

abbrev pub state_input : State → fed.HashWrites
state_input s = fed.usize s.part ++ fed.u32 s.node ++ env_input s.env
