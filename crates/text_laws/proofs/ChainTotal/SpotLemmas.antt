-- The places of plus code in order.
use Rattle.std.proofs.Common.{◌≡◌, ◌<◌, ℕ, zero, suc, Bool, true, false, refl, ap, subst, arith, List, [], ◌∷◌, length}
use Rattle.std.specs.Prelude.{slice_index_or}
use Rattle.std.specs.List.Sorted.{IsPermutation, IsSortedBy}
use Rattle.std.specs.Ordering.{is_lt, ordering_reverse}
use Rattle.std.specs.declared.cmp.Ordering.{Ordering}
use Rattle.std.specs.declared.cmp.Ordering.TheVariants.{Less, Equal, Greater}
use Rattle.std.proofs.lemmas.List.Sorted.{IsPermutation-refl, IsPermutation-cons, IsPermutation-trans, IsPermutation-middle}
use Rattle.edit_marks.specs.declared.spot.PlusSpot.{PlusSpot}
use Rattle.edit_marks.specs.Spots.{spot_order}
use Rattle.edit_marks.proofs.OneEdit.{spot_total}

abbrev pub before : PlusSpot → PlusSpot → Bool
before a b = is_lt (spot_order a b)

not_both : (o p : Ordering) → o ≡ ordering_reverse p → is_lt p ≡ true → is_lt o ≡ false
not_both o Less e h = ap is_lt e
not_both o Equal e h = absurd cc
not_both o Greater e h = absurd cc

not_before : (s t : PlusSpot) → before t s ≡ true → before s t ≡ false
not_before s t h = not_both (spot_order s t) (spot_order t s) (spot_total.antisymm s t) h

abbrev Follows : PlusSpot → List PlusSpot → Type 0
Follows s [] = Unit {0}
Follows s (t ∷ ts) = before t s ≡ false

abbrev Rises : List PlusSpot → Type 0
Rises [] = Unit {0}
Rises (s ∷ ss) = Follows s ss × Rises ss

record Put (s : PlusSpot) (ts : List PlusSpot) : Type 0 where
  out : List PlusSpot
  rises : Rises out
  head : (x : PlusSpot) → before s x ≡ false → Follows x ts → Follows x out
  all : IsPermutation (s ∷ ts) out

put_by : (b : Bool) (s t : PlusSpot) (ts : List PlusSpot) → before t s ≡ b → Rises (t ∷ ts) → Put s ts → Put s (t ∷ ts)
put_by false s t ts h r rest = record { out = s ∷ t ∷ ts; rises = (h, r); head = λ x a b. a; all = IsPermutation-refl (s ∷ t ∷ ts) }
put_by true s t ts h r rest = record {
  out = t ∷ rest.out;
  rises = (rest.head t (not_before s t h) r.0, rest.rises);
  head = λ x a b. b;
  all = IsPermutation-trans (s ∷ t ∷ ts) (t ∷ s ∷ ts) (t ∷ rest.out) (IsPermutation-middle (s ∷ []) t ts)
      (IsPermutation-cons t (s ∷ ts) rest.out rest.all);
}

put : (s : PlusSpot) (ts : List PlusSpot) → Rises ts → Put s ts
put s [] r = record { out = s ∷ []; rises = (tt, tt); head = λ x a b. a; all = IsPermutation-refl (s ∷ []) }
put s (t ∷ ts) r = put_by (before t s) s t ts refl r (put s ts r.1)

record Ordered (xs : List PlusSpot) : Type 0 where
  out : List PlusSpot
  rises : Rises out
  all : IsPermutation xs out

ordered : (xs : List PlusSpot) → Ordered xs
ordered [] = record { out = []; rises = tt; all = IsPermutation-refl [] }
ordered (x ∷ xs) =
    let rest = ordered xs in
    let one = put x rest.out rest.rises in
    record {
      out = one.out;
      rises = one.rises;
      all = IsPermutation-trans (x ∷ xs) (x ∷ rest.out) one.out (IsPermutation-cons x xs rest.out rest.all) one.all;
    }

next_not_less : (xs : List PlusSpot) → Rises xs → (k : ℕ) (d : PlusSpot) → suc k < length xs
    → before (slice_index_or xs (suc k) d) (slice_index_or xs k d) ≡ false
next_not_less [] r k d lt = absurd (omega (arith, lt))
next_not_less (x ∷ []) r k d lt = absurd (omega (arith, lt))
next_not_less (x ∷ y ∷ xs) r zero d lt = r.0
next_not_less (x ∷ y ∷ xs) r (suc k) d lt = next_not_less (y ∷ xs) r.1 k d (omega (arith, lt))

sorted : (xs : List PlusSpot) → Rises xs → IsSortedBy before xs
sorted xs r k d low lt =
    subst (λ (j : ℕ). before (slice_index_or xs j d) (slice_index_or xs k d) ≡ false) (omega arith) (next_not_less xs r k d (omega (arith, lt)))

-- these places, in order
pub record InOrder (xs : List PlusSpot) : Type 0 where
  pub out : List PlusSpot
  pub all : IsPermutation xs out
  pub sorted_are : IsSortedBy before out

pub in_order : (xs : List PlusSpot) → InOrder xs
in_order xs = let o = ordered xs in record { out = o.out; all = o.all; sorted_are = sorted o.out o.rises }
