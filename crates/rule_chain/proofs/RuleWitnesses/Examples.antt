-- Examples of the definitions, above all where two readings would differ.
use Rattle.std.proofs.Common.{◌≡◌, refl, true, false, List, [], ◌∷◌}
use Rattle.std.specs.Prelude.{codes}
use Rattle.smpl_terms.specs.declared.var.Var.{Var}
use Rattle.smpl_terms.specs.declared.value.Value.{Value}
use Rattle.smpl_terms.specs.declared.value.Value.TheVariants.{Place}
use Rattle.env_parts.specs.Parts.{Pairs}
use Rattle.wit_forest.specs.WitTrees.Rules.{choices, in_order}
use Rattle.rule_chain.specs.RuleWitnesses.Choices.{AreNew}

abbrev x : Var
x = record { rule = 0; name = codes "x" }

abbrev y : Var
y = record { rule = 0; name = codes "y" }

abbrev values : List Value
values = Place 2 ∷ Place 1 ∷ Place 2 ∷ []

abbrev with_both : Value → Value → Pairs
with_both v w = (x, v) ∷ (y, w) ∷ []

-- the variable that is exported first varies slowest, wherever it is in the environment
first_slowest : choices (in_order values) (y ∷ x ∷ []) []
    ≡ with_both (Place 1) (Place 1) ∷ with_both (Place 2) (Place 1) ∷ with_both (Place 1) (Place 2) ∷ with_both (Place 2) (Place 2) ∷ []
first_slowest = refl

-- a rule that exports nothing has one environment
none_exported : choices (in_order values) [] ((x, Place 7) ∷ []) ≡ ((x, Place 7) ∷ []) ∷ []
none_exported = refl

-- a variable can be given a value once
not_twice : AreNew (x ∷ x ∷ []) [] → ⊥
not_twice n = let e : true ≡ false = n.1 in absurd cc
