-- The definitions at a few values, mainly where two readings would differ.
use Rattle.std.proofs.Common.{◌≡◌, false, refl, [], ◌∷◌}
use Rattle.std.specs.Prelude.{codes}
use Rattle.std.specs.declared.cmp.Ordering.TheVariants.{Less, Greater}
use Rattle.smpl_terms.specs.declared.var.Var.{Var}
use Rattle.smpl_terms.specs.declared.value.Value.TheVariants.{Place}
use Rattle.env_parts.specs.Parts.{Pairs, restricted, joined, same_env, distinct, env_order}

abbrev x : Var
x = record { rule = 0; name = codes "x" }

abbrev y : Var
y = record { rule = 0; name = codes "y" }

abbrev y_of_later_rule : Var
y_of_later_rule = record { rule = 1; name = codes "y" }

abbrev one : Pairs
one = (x, Place 1) ∷ (y, Place 2) ∷ []

-- a variable that the environment lacks is skipped, and the order of the given variables doesn't matter
asked_for : restricted (y_of_later_rule ∷ y ∷ []) one ≡ (y, Place 2) ∷ []
asked_for = refl

any_order : restricted (y ∷ x ∷ []) one ≡ one
any_order = refl

-- the value that was there stays
first_stays : joined one ((x, Place 7) ∷ (y_of_later_rule, Place 8) ∷ [])
    ≡ (x, Place 1) ∷ (y, Place 2) ∷ (y_of_later_rule, Place 8) ∷ []
first_stays = refl

-- the same name in two rules stands for two variables
rules_count : same_env ((y, Place 2) ∷ []) ((y_of_later_rule, Place 2) ∷ []) ≡ false
rules_count = refl

-- an environment is not the same as one with more pairs
prefix_differs : same_env one ((x, Place 1) ∷ []) ≡ false
prefix_differs = refl

-- the first of equal environments keeps its place
in_order : distinct (one ∷ [] ∷ one ∷ ((x, Place 1) ∷ []) ∷ [] ∷ []) ≡ one ∷ [] ∷ ((x, Place 1) ∷ []) ∷ []
in_order = refl

-- a value decides before the next variable, and a proper prefix is first
value_first : env_order ((x, Place 1) ∷ (y_of_later_rule, Place 1) ∷ []) ((x, Place 2) ∷ (y, Place 1) ∷ []) ≡ Less
value_first = refl

variable_first : env_order ((x, Place 9) ∷ []) ((y, Place 1) ∷ []) ≡ Less
variable_first = refl

prefix_first : env_order one ((x, Place 1) ∷ []) ≡ Greater
prefix_first = refl
