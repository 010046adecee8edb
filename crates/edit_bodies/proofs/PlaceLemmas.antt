-- The braces at a place are among those at its token.
use Rattle.std.proofs.Common.{◌≡◌, ◌&&◌, ℕ, zero, suc, Bool, true, false, refl, ap, ◌∙◌, List, [], ◌∷◌, get_or}
use Rattle.std.specs.Prelude.{None, filter, nat_eq, slice_get, if◌then◌else◌}
use Rattle.edit_bodies.specs.declared.braces.Coming.{Coming}
use Rattle.edit_bodies.specs.declared.braces.Spot.{Spot}
use Rattle.edit_bodies.specs.Rows.{same_flag, same_spot}
use Rattle.edit_bodies.specs.Places.{at_token}

module _ {X : Type 0} (q r : X → Bool) where
  one : (x : X) (xs : List X) (b : Bool) → q x ≡ b → filter (λ y. q y && r y) (filter q xs) ≡ filter (λ y. q y && r y) xs
      → filter (λ y. q y && r y) (if b then x ∷ filter q xs else filter q xs)
      ≡ (if b && r x then x ∷ filter (λ y. q y && r y) xs else filter (λ y. q y && r y) xs)
  one x xs true e h =
      ap (λ (b : Bool). if b && r x then x ∷ filter (λ y. q y && r y) (filter q xs) else filter (λ y. q y && r y) (filter q xs)) e
      ∙ (λ i. if true && r x then x ∷ h i else h i)
  one x xs false e h = h

  both : (xs : List X) → filter (λ y. q y && r y) (filter q xs) ≡ filter (λ y. q y && r y) xs
  both [] = refl
  both (x ∷ xs) = one x xs (q x) refl (both xs)

pub same_there : (all : List Coming) (s : Spot) → filter (λ b. same_spot b.spot s) (at_token all s.token) ≡ filter (λ b. same_spot b.spot s) all
same_there all s = both (λ b. nat_eq b.spot.token s.token) (λ b. same_flag b.spot.after s.after && nat_eq b.spot.inserts s.inserts) all

pub none_or : {X : Type 0} (xs : List (List X)) (k : ℕ) → None ≡ slice_get xs k → [] ≡ get_or xs k []
none_or [] k e = refl
none_or (x ∷ xs) zero e = absurd cc
none_or (x ∷ xs) (suc k) e = none_or xs k e
