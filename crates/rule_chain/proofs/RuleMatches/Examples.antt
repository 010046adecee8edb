-- Which exported variables are apart from the inherited ones, where two readings would differ.
use Rattle.std.proofs.Common.{◌≡◌, refl, true, false, [], ◌∷◌}
use Rattle.std.specs.Prelude.{codes}
use Rattle.smpl_terms.specs.declared.var.Var.{Var}
use Rattle.rule_chain.specs.RuleMatches.Matching.{AreApart}

abbrev x : Var
x = record { rule = 0; name = codes "x" }

abbrev y : Var
y = record { rule = 1; name = codes "x" }

-- a variable of another rule with the same name is a different one
other_rule : AreApart (y ∷ []) (x ∷ [])
other_rule = (refl, refl, tt)

not_inherited : AreApart (y ∷ x ∷ []) (x ∷ []) → ⊥
not_inherited n = let e : true ≡ false = n.2.0 in absurd cc

not_twice : AreApart (x ∷ x ∷ []) [] → ⊥
not_twice n = let e : true ≡ false = n.1 in absurd cc
