-- The first of faults is one of them, and none of them is before it.
use Rattle.std.proofs.Common.{◌≡◌, ℕ, ◌==◌, ◌&&◌, ◌||◌, ◌⊎◌, inl, inr, Bool, true, false, nat_lt, List, [], ◌∷◌, Option, Some}
use Rattle.std.proofs.Common.{None, refl, sym, subst, arith, if◌then◌else◌}
use Rattle.std.proofs.lemmas.Bool.Decides.{nat_tests}
use Rattle.smpl_patch.specs.declared.fault.PatchFault.{PatchFault}
use Rattle.smpl_patch.specs.Faults.{number_of, place_of, is_before, earlier, first_from, first_of, IsAmong, NoneBefore, IsFirstOf}

abbrev lex : ℕ → ℕ → ℕ → ℕ → Bool
lex p n q m = nat_lt p q || (p == q && nat_lt n m)

-- by place, then by number: if h is before g, and h is not before f, then g is not before f
lex_through : (p n q m r k : ℕ) → lex q m r k ≡ true → lex q m p n ≡ false → lex r k p n ≡ false
lex_through p n q m r k a b = grind (arith, nat_tests)

lex_not : (p n q m r k : ℕ) → lex q m r k ≡ false → lex r k p n ≡ false → lex q m p n ≡ false
lex_not p n q m r k a b = grind (arith, nat_tests)

lex_self : (p n : ℕ) → lex p n p n ≡ false
lex_self p n = grind (arith, nat_tests)

-- the first fault so far is never before the first of all
record Stays (o : Option PatchFault) (fs : List PatchFault) (f : PatchFault) : Type 0 where
  known : (g : PatchFault) → o ≡ Some g → is_before g f ≡ false
  least : NoneBefore f fs

stays_by : (g h f : PatchFault) (b : Bool) → is_before h g ≡ b → is_before (if b then h else g) f ≡ false → (is_before g f ≡ false) × (is_before h f ≡ false)
stays_by g h f true is e = (lex_through (place_of f) (number_of f) (place_of h) (number_of h) (place_of g) (number_of g) is e, e)
stays_by g h f false is e = (e, lex_not (place_of f) (number_of f) (place_of h) (number_of h) (place_of g) (number_of g) is e)

stays : (o : Option PatchFault) (fs : List PatchFault) (f : PatchFault) → first_from o fs ≡ Some f → Stays o fs f
stays o [] f e = record {
  known = λ g is. let same : g ≡ f = cc in subst (λ (x : PatchFault). is_before x f ≡ false) (sym same) (lex_self (place_of f) (number_of f));
  least = tt;
}
stays None (h ∷ fs) f e =
    let rest = stays (Some h) fs f e in
    record { known = λ g is. absurd (cc); least = (rest.known h refl, rest.least) }
stays (Some k) (h ∷ fs) f e =
    let rest = stays (Some (earlier (Some k) h)) fs f e in
    let both = stays_by k h f (is_before h k) refl (rest.known (earlier (Some k) h) refl) in
    record {
      known = λ g is. let same : g ≡ k = cc in subst (λ (x : PatchFault). is_before x f ≡ false) (sym same) both.0;
      least = (both.1, rest.least);
    }

one_by : (k h f : PatchFault) (fs : List PatchFault) (b : Bool) → (((if b then h else k) ≡ f) ⊎ IsAmong f fs) → (k ≡ f) ⊎ ((h ≡ f) ⊎ IsAmong f fs)
one_by k h f fs true (inl e) = inr (inl e)
one_by k h f fs false (inl e) = inl e
one_by k h f fs b (inr c) = inr (inr c)

one_of : (k : PatchFault) (fs : List PatchFault) (f : PatchFault) → first_from (Some k) fs ≡ Some f → (k ≡ f) ⊎ IsAmong f fs
one_of k [] f e = inl (cc)
one_of k (h ∷ fs) f e = one_by k h f fs (is_before h k) (one_of (earlier (Some k) h) fs f e)

pub is_first_of : (fs : List PatchFault) (f : PatchFault) → first_of fs ≡ Some f → IsFirstOf fs f
is_first_of [] f e = absurd (cc)
is_first_of (h ∷ fs) f e = record { among = one_of h fs f e; least = (stays None (h ∷ fs) f e).least }
