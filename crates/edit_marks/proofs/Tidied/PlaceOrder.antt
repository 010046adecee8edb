-- The order of places of plus code, by numbers.
use Rattle.std.proofs.Common.{◌≡◌, ◌<◌, ◌≤◌, ◌+◌, ◌*◌, ◌==◌, ◌&&◌, ◌⊎◌, ℕ, zero, suc, Bool, true, false, inl, inr, refl, sym, ap, subst, ◌∙◌, arith}
use Rattle.std.proofs.Common.{List, [], ◌∷◌, length, get_or}
use Rattle.std.specs.Prelude.{not}
use Rattle.std.specs.Ordering.{is_lt, ordering_then, nat_cmp}
use Rattle.std.specs.declared.cmp.Ordering.{Ordering}
use Rattle.std.specs.declared.cmp.Ordering.TheVariants.{Less, Equal, Greater}
use Rattle.std.proofs.lemmas.Bool.Decides.{Decides-eqb, nat_tests}
use Rattle.edit_marks.specs.declared.spot.PlusSpot.{PlusSpot}
use Rattle.edit_marks.specs.declared.tidy.edges.PlacedBlock.{PlacedBlock}
use Rattle.edit_marks.specs.Spots.{side, spot_order}
use Rattle.edit_marks.specs.Tidy.Neighbours.{AreInPlace, same_side, is_place}
use Rattle.edit_marks.specs.Tidy.Searches.{rank_of}

abbrev pub rank_at : ℕ → Bool → ℕ
rank_at token after = 2 * token + side after

pub side_small : (b : Bool) → side b ≤ 1
side_small true = omega arith
side_small false = omega arith

pub not_true : (b : Bool) → not b ≡ true → b ≡ false
not_true true e = absurd cc
not_true false e = refl

pub not_false : (b : Bool) → not b ≡ false → b ≡ true
not_false true e = refl
not_false false e = absurd cc

both_true : (a b : Bool) → (a && b) ≡ true → (a ≡ true) × (b ≡ true)
both_true true b e = (refl, e)
both_true false b e = absurd cc

both : (a b : Bool) → a ≡ true → b ≡ true → (a && b) ≡ true
both true b h k = k
both false b h k = absurd cc

side_same : (a b : Bool) → same_side a b ≡ true → side a ≡ side b
side_same true true e = refl
side_same true false e = absurd cc
side_same false true e = absurd cc
side_same false false e = refl

same_sides : (a b : Bool) → side a ≡ side b → same_side a b ≡ true
same_sides true true e = refl
same_sides true false e = absurd (omega (arith, e))
same_sides false true e = absurd (omega (arith, e))
same_sides false false e = refl

pub place_rank : (token : ℕ) (after : Bool) (b : PlacedBlock) → is_place token after b ≡ true → rank_of b ≡ rank_at token after
place_rank token after b e =
    let parts = both_true (b.spot.token == token) (same_side b.spot.after after) e in
    let here : b.spot.token ≡ token = (Decides-eqb b.spot.token token).0 parts.0 in
    let sides : side b.spot.after ≡ side after = side_same b.spot.after after parts.1 in
    omega (arith, here, sides)

pub place_token : (token : ℕ) (after : Bool) (b : PlacedBlock) → is_place token after b ≡ true → b.spot.token ≡ token
place_token token after b e = (Decides-eqb b.spot.token token).0 (both_true (b.spot.token == token) (same_side b.spot.after after) e).0

false_by : (b : Bool) → (b ≡ true → ⊥) → b ≡ false
false_by true h = absurd (h refl)
false_by false h = refl

-- a block whose number differs is at another place
pub no_place : (token : ℕ) (after : Bool) (b : PlacedBlock) → (rank_of b ≡ rank_at token after → ⊥) → is_place token after b ≡ false
no_place token after b h = false_by (is_place token after b) (λ e. h (place_rank token after b e))

parts_of : (a b s t : ℕ) → s ≤ 1 → t ≤ 1 → 2 * a + s ≡ 2 * b + t → (a ≡ b) × (s ≡ t)
parts_of a b s t hs ht e = (omega (arith, hs, ht, e), omega (arith, hs, ht, e))

-- and the other way round
pub rank_place : (token : ℕ) (after : Bool) (b : PlacedBlock) → rank_of b ≡ rank_at token after → is_place token after b ≡ true
rank_place token after b e =
    let parts = parts_of b.spot.token token (side b.spot.after) (side after) (side_small b.spot.after) (side_small after) e in
    both (b.spot.token == token) (same_side b.spot.after after) ((Decides-eqb b.spot.token token).1 parts.0) (same_sides b.spot.after after parts.1)

first_not_less : (o p : Ordering) → is_lt (ordering_then o p) ≡ false → is_lt o ≡ false
first_not_less Less p e = e
first_not_less Equal p e = refl
first_not_less Greater p e = refl

not_less : (a b : ℕ) → is_lt (nat_cmp b a) ≡ false → a ≤ b
not_less a b h = grind (arith, nat_tests)

tied : (a : ℕ) → nat_cmp a a ≡ Equal
tied a = grind (arith, nat_tests)

less_or : (a b : ℕ) → a ≤ b → (a < b) ⊎ (a ≡ b)
less_or a b le = grind arith

two_ranks : (a b s t : ℕ) → s ≤ 1 → t ≤ 1 → is_lt (ordering_then (nat_cmp a b) (nat_cmp s t)) ≡ false → 2 * b + t ≤ 2 * a + s
two_ranks a b s t hs ht e =
    elim (less_or b a (not_less b a (first_not_less (nat_cmp a b) (nat_cmp s t) e))) [
      | inl less ↦ omega (arith, hs, ht, less)
      | inr same ↦
          let at : is_lt (ordering_then (nat_cmp a a) (nat_cmp s t)) ≡ false = subst (λ (x : ℕ). is_lt (ordering_then (nat_cmp a x) (nat_cmp s t)) ≡ false) same e in
          let second : is_lt (nat_cmp s t) ≡ false = subst (λ (o : Ordering). is_lt (ordering_then o (nat_cmp s t)) ≡ false) (tied a) at in
          let le : t ≤ s = not_less t s second in
          omega (arith, same, le)
    ]

spot_rank : (s t : PlusSpot) → is_lt (spot_order s t) ≡ false → rank_at t.token t.after ≤ rank_at s.token s.after
spot_rank s t e =
    two_ranks s.token t.token (side s.after) (side t.after) (side_small s.after) (side_small t.after)
    (first_not_less (ordering_then (nat_cmp s.token t.token) (nat_cmp (side s.after) (side t.after))) (nat_cmp s.pattern t.pattern) e)

-- the numbers of blocks in place do not fall
pub ranked : (blocks : List PlacedBlock) → AreInPlace blocks → (i j : ℕ) (d : PlacedBlock) → i ≤ j → j < length blocks
    → rank_of (get_or blocks i d) ≤ rank_of (get_or blocks j d)
ranked [] h i j d le less = absurd (omega (arith, less))
ranked (b ∷ blocks) h zero zero d le less = omega arith
ranked (b ∷ blocks) h zero (suc j) d le less = spot_rank (get_or blocks j d).spot b.spot (h.0 j d (omega (arith, less)))
ranked (b ∷ blocks) h (suc i) zero d le less = absurd (omega (arith, le))
ranked (b ∷ blocks) h (suc i) (suc j) d le less = ranked blocks h.1 i j d (omega (arith, le)) (omega (arith, less))
