-- A bound cannot distinguish values that are the same; what two bounds allow.
use Rattle.std.proofs.Common.{◌≡◌, Bool, true, false, ◌&&◌, not, refl, sym, ◌∙◌, ap, arith, List, [], ◌∷◌}
use Rattle.std.specs.List.{list_any, list_all}
use Rattle.std.proofs.lemmas.Grind.{common_steps}
use Rattle.smpl_terms.proofs.ValueLaws.{same-along}
use Rattle.smpl_terms.specs.declared.value.Value.{Value}
use Rattle.env_sets.specs.declared.bounds.Bound.{Bound}
use Rattle.env_sets.specs.declared.bounds.Bound.TheVariants.{Is, Not}
use Rattle.smpl_terms.specs.Values.{same}
use Rattle.env_sets.specs.Bounds.{fits}

pub any_same-along : (v w : Value) → same v w ≡ true → (xs : List Value) → list_any (λ x. same x v) xs ≡ list_any (λ x. same x w) xs
any_same-along v w e [] = refl
any_same-along v w e (x ∷ xs) = let h = same-along v w e x in let t = any_same-along v w e xs in cc

pub fits-along : (v w : Value) → same v w ≡ true → (b : Bound) → fits v b ≡ fits w b
fits-along v w e (Is x) = same-along v w e x
fits-along v w e (Not xs) = ap not (any_same-along v w e xs)

covers_step : (v : Value) (vs ws : List Value) (x : Value) → list_any (λ w. same w v) ws ≡ true → fits x (Not ws) ≡ true
    → fits x (Not vs) ≡ true → fits x (Not (v ∷ vs)) ≡ true
covers_step v vs ws x e h r = grind (arith, common_steps, any_same-along v x)

-- all of vs are among ws
pub covers_not : (vs ws : List Value) (x : Value) → list_all (λ v. list_any (λ w. same w v) ws) vs ≡ true → fits x (Not ws) ≡ true → fits x (Not vs) ≡ true
covers_not [] ws x all h = refl
covers_not (v ∷ vs) ws x all h =
    let t : list_all (λ u. list_any (λ w. same w u) ws) vs ≡ true = grind (arith, common_steps) in
    let r = covers_not vs ws x t h in
    let e : list_any (λ w. same w v) ws ≡ true = grind (arith, common_steps) in
    covers_step v vs ws x e h r

pub covers_is : (w : Value) (a b : Bound) (r : Bool) → b ≡ Is w → r ≡ fits w a → r ≡ true → (x : Value) → fits x b ≡ true → fits x a ≡ true
covers_is w a b r e f h x k =
    let s : same w x ≡ true = sym (ap (fits x) e) ∙ k in sym (fits-along w x s a) ∙ sym f ∙ h

meet_step : (v x : Value) (b : Bound) (s t : Bool) → same v x ≡ s → fits v b ≡ t → (s && fits x b) ≡ (s && t)
meet_step v x b true t h k = sym (fits-along v x h b) ∙ k
meet_step v x b false t h k = refl

pub meet_kept : (v : Value) (a b o : Bound) (r : Bool) → a ≡ Is v → o ≡ a → r ≡ fits v b → r ≡ true → (x : Value) → fits x o ≡ (fits x a && fits x b)
meet_kept v a b o r e f g h x =
    let m = meet_step v x b (same v x) true refl (sym g ∙ h) in
    let n : fits x a ≡ same v x = ap (fits x) e in grind (arith, common_steps)

pub meet_none : (v : Value) (a b : Bound) (r : Bool) → a ≡ Is v → r ≡ fits v b → r ≡ false → (x : Value) → false ≡ (fits x a && fits x b)
meet_none v a b r e g h x =
    let m = meet_step v x b (same v x) false refl (sym g ∙ h) in
    let n : fits x a ≡ same v x = ap (fits x) e in grind (arith, common_steps)

pub and_swap : (a b : Bool) → (a && b) ≡ (b && a)
and_swap a b = grind (arith, common_steps)

pub meet_kept_right : (v : Value) (a b o : Bound) (r : Bool) → b ≡ Is v → o ≡ b → r ≡ fits v a → r ≡ true → (x : Value) → fits x o ≡ (fits x a && fits x b)
meet_kept_right v a b o r e f g h x = meet_kept v b a o r e f g h x ∙ and_swap (fits x b) (fits x a)

pub meet_none_right : (v : Value) (a b : Bound) (r : Bool) → b ≡ Is v → r ≡ fits v a → r ≡ false → (x : Value) → false ≡ (fits x a && fits x b)
meet_none_right v a b r e g h x = meet_none v b a r e g h x ∙ and_swap (fits x b) (fits x a)
