-- Two environments compare as equal exactly if they are the same.
use Rattle.std.proofs.Common.{◌≡◌, Bool, true, false, ◌&&◌, refl, sym, ap, ◌∙◌, [], ◌∷◌}
use Rattle.std.specs.declared.cmp.Ordering.{Ordering}
use Rattle.std.specs.declared.cmp.Ordering.TheVariants.{Less, Equal, Greater}
use Rattle.std.specs.Ordering.{is_eq, ordering_then}
use Rattle.smpl_terms.specs.declared.var.Var.{Var}
use Rattle.smpl_terms.specs.Vars.{same_var, var_order}
use Rattle.smpl_terms.specs.Values.{value_order}
use Rattle.smpl_terms.proofs.VarLaws.{var_order_total, var_order-same, same_var-equal}
use Rattle.smpl_terms.proofs.ValueLaws.{is_eq-value_order}
use Rattle.std.proofs.lemmas.Cmp.{tied_itself}
use Rattle.env_parts.specs.Parts.{Pairs, same_env, pair_order, env_order}

is_eq-equal : (o : Ordering) → is_eq o ≡ true → o ≡ Equal
is_eq-equal Less h = absurd cc
is_eq-equal Equal h = refl
is_eq-equal Greater h = absurd cc

is_eq-then : (o p : Ordering) → is_eq (ordering_then o p) ≡ (is_eq o && is_eq p)
is_eq-then Less p = refl
is_eq-then Equal p = refl
is_eq-then Greater p = refl

both_ways : (a b : Bool) → (a ≡ true → b ≡ true) → (b ≡ true → a ≡ true) → a ≡ b
both_ways true b f g = sym (f refl)
both_ways false true f g = g refl
both_ways false false f g = refl

is_eq-var_order : (x y : Var) → is_eq (var_order x y) ≡ same_var x y
is_eq-var_order x y = both_ways _ _
    (λ h. var_order-same x y (is_eq-equal (var_order x y) h))
    (λ h. ap (λ z. is_eq (var_order x z)) (sym (same_var-equal x y h)) ∙ ap is_eq (tied_itself var_order_total x))

pub is_eq-env_order : (a b : Pairs) → is_eq (env_order a b) ≡ same_env a b
is_eq-env_order [] [] = refl
is_eq-env_order [] (q ∷ qs) = refl
is_eq-env_order (p ∷ ps) [] = refl
is_eq-env_order (p ∷ ps) (q ∷ qs) =
    is_eq-then (pair_order p q) (env_order ps qs)
    ∙ (λ i. (is_eq-then (var_order p.0 q.0) (value_order p.1 q.1) ∙ (λ j. is_eq-var_order p.0 q.0 j && is_eq-value_order p.1 q.1 j)) i
    && is_eq-env_order ps qs i)
