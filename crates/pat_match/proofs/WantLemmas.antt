-- How often a type is a pointer, counted one by one.
use Rattle.std.proofs.Common.{◌≡◌, ℕ, suc, ◌-◌, ◌<◌, ◌≤◌, Bool, true, false, None, Some, sym, ap, ◌∙◌, arith}
use Rattle.std.specs.Option.{option_map_or}
use Rattle.c_types.specs.declared.ty.Ty.{Ty}
use Rattle.c_types.specs.Types.{element}
use Rattle.pat_match.specs.Wants.{is_pointer}

here : (n i j : ℕ) (t : Ty) → j ≡ suc i → i < n → is_pointer (n - i) t ≡ option_map_or (is_pointer (n - j)) (element t) false
here n i j t e lt = let m : n - i ≡ suc (n - j) = omega arith in ap (λ k. is_pointer k t) m

pub pointer_next : (n i j : ℕ) (t next : Ty) (w : Bool) → j ≡ suc i → i < n → element t ≡ Some next → is_pointer (n - i) t ≡ w
    → is_pointer (n - j) next ≡ w
pointer_next n i j t next w e lt s h = sym (here n i j t e lt ∙ ap (λ o. option_map_or (is_pointer (n - j)) o false) s) ∙ h

pub pointer_not : (n i : ℕ) (t : Ty) (w : Bool) → i < n → element t ≡ None → is_pointer (n - i) t ≡ w → false ≡ w
pointer_not n i t w lt s h =
    sym (here n i (suc i) t (omega arith) lt ∙ ap (λ o. option_map_or (is_pointer (n - suc i)) o false) s) ∙ h

pub pointer_end : (n i : ℕ) (t : Ty) (w : Bool) → n ≤ i → is_pointer (n - i) t ≡ w → true ≡ w
pointer_end n i t w le h = let m : n - i ≡ 0 = omega arith in sym (ap (λ k. is_pointer k t) m) ∙ h
