-- Environments that are given values one variable after another: the values that the entries of a set leave them.
use Rattle.std.specs.Prelude.{◌≡◌, List, [], ◌∷◌, ◌++◌, map}
use Rattle.smpl_terms.specs.declared.var.Var.{Var}
use Rattle.smpl_terms.specs.declared.value.Value.{Value}
use Rattle.smpl_terms.specs.Vars.{with_pair}
use Rattle.smpl_terms.specs.Environments.{total}
use Rattle.env_parts.specs.Parts.{Pairs}
use Rattle.env_sets.specs.Rising.{Rise}
use Rattle.env_sets.specs.Sets.{Entries}
use Rattle.ctl_fixpoint.specs.CtlHolds.Values.{is_among}
use Rattle.wit_forest.specs.WitSteps.Choices.{chosen, AllRise}
use Rattle.rule_chain.specs.RuleWitnesses.Opened.{IsOpen}

-- the values, in order, that the entries of a set leave x
pub record AreChosen (set : Entries) (x : Var) (env : Pairs) (values : List Value) : Type 0 where
  pub rise : Rise values
  pub among : (z : Value) → is_among values z ≡ chosen x (total env) set z
  pub entries : AllRise set

-- the old environments, and after them env with each of the values
abbrev pub Adds : Entries → Var → Pairs → List Pairs → List Pairs → Type 0
Adds set x env old new =
    (values : List Value) × AreChosen set x env values × (new ≡ old ++ map (with_pair env x) values)

-- each environment with each of the values that the set leaves it
abbrev pub AreExtended : Entries → Var → List Pairs → List Pairs → Type 0
AreExtended set x [] more = more ≡ []
AreExtended set x (e ∷ es) more =
    (values : List Value) × (rest : List Pairs)
    × AreChosen set x e values × (more ≡ map (with_pair e x) values ++ rest) × AreExtended set x es rest

-- the same for each of the variables, with the later ones left open
abbrev pub AreChoices : Entries → List Var → List Pairs → List Pairs → Type 0
AreChoices set [] envs result = envs ≡ result
AreChoices set (x ∷ xs) envs result =
    (other : Entries) × (more : List Pairs)
    × IsOpen set xs other × AreExtended other x envs more × AreChoices set xs more result
