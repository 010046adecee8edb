-- The touches of witnesses, in order, each with the values that are bound above it.
use Rattle.std.specs.Prelude.{ℕ, cond, List, [], ◌∷◌}
use Rattle.std.specs.List.{flat_map}
use Rattle.smpl_terms.specs.declared.var.Var.{Var}
use Rattle.smpl_terms.specs.declared.value.Value.{Value}
use Rattle.smpl_terms.specs.Vars.{with_pair}
use Rattle.smpl_terms.specs.Environments.{has_value}
use Rattle.smpl_patch.specs.declared.witness.Witness.{Witness}
use Rattle.smpl_patch.specs.declared.witness.Witness.TheOpen.{Witness-F}
use Rattle.smpl_patch.specs.declared.witness.Witness.TheFolds.{fold-Witness}
use Rattle.smpl_patch.specs.declared.witness.RuleWitness.{RuleWitness}

abbrev pub Values : Type 0
Values = List (Var × Value)

-- a touch in an item, and the values under which it was found
pub record Touched : Type 0 where
  pub item : ℕ
  pub node : ℕ
  pub atom : ℕ
  pub path : List ℕ
  pub env : Values

-- one more value; a variable that already has a value keeps it
abbrev pub bound : Values → Var → Value → Values
bound env x v = cond (has_value env x) env (with_pair env x v)

abbrev pub touch_step : ℕ → Witness-F (Values → List Touched) → Values → List Touched
touch_step item (Witness-F.Touch node atom path) env = record { item = item; node = node; atom = atom; path = path; env = env } ∷ []
touch_step item (Witness-F.Bind node x v under) env = flat_map (λ f. f (bound env x v)) under

-- the touches of a tree that was found under these values
abbrev pub touches_in : ℕ → Values → Witness → List Touched
touches_in item env w = fold-Witness (Values → List Touched) (touch_step item) w env

abbrev pub touches_of : RuleWitness → List Touched
touches_of w = flat_map (touches_in w.item w.env) w.forest

-- the touches of all witnesses
abbrev pub touches : List RuleWitness → List Touched
touches = flat_map touches_of
