-- The depth, a token at a time.
use Rattle.std.proofs.Common.{◌≡◌, ℕ, ◌+◌, ◌<◌, ◌≤◌, max, List, [], ◌∷◌, length, get_or, drop, suc, refl, ap, sym, ◌∙◌, arith, add-one, drop-cons}
use Rattle.std.proofs.lemmas.Grind.{common_steps}
use Rattle.c_terms.specs.declared.token.Token.{Token}
use Rattle.c_rows.specs.Depth.{step, opens_from}

pub opens-cons : (d : ℕ) (t : Token) (ts : List Token) → opens_from d (t ∷ ts) ≡ max d (opens_from (step t d) ts)
unfolding opens_from
opens-cons d t ts = refl

pub opens-nil : (d : ℕ) → opens_from d [] ≡ d
unfolding opens_from
opens-nil d = refl

pub opens_least : (d : ℕ) (ts : List Token) → d ≤ opens_from d ts
opens_least d [] = omega (arith, opens-nil d)
opens_least d (t ∷ ts) = omega (arith, opens-cons d t ts)

turn_at : (xs : List Token) (i d : ℕ) (t : Token) → i < length xs → t ≡ get_or xs i t
    → opens_from d (drop i xs) ≡ max d (opens_from (step t d) (drop (i + 1) xs))
turn_at xs i d t h e = ap (opens_from d) (split xs i t h e) ∙ opens-cons d t (drop (i + 1) xs)
  where
    split : (xs : List Token) (i : ℕ) (t : Token) → i < length xs → t ≡ get_or xs i t → drop i xs ≡ t ∷ drop (i + 1) xs
    split xs i t h e = rw (add-one, drop-cons xs i t) (ap (λ (u : Token). u ∷ drop (suc i) xs) (sym e))

pub below_turn : (xs : List Token) (i d : ℕ) (t : Token) → i < length xs → t ≡ get_or xs i t → d ≤ 200
    → 200 < opens_from d (drop i xs) → 200 < opens_from (step t d) (drop (i + 1) xs)
below_turn xs i d t h e le big = omega (arith, turn_at xs i d t h e)

pub above_turn : (xs : List Token) (i d : ℕ) (t : Token) → i < length xs → t ≡ get_or xs i t
    → 200 < opens_from (step t d) (drop (i + 1) xs) → 200 < opens_from d (drop i xs)
above_turn xs i d t h e big = omega (arith, turn_at xs i d t h e)

pub at_end_small : (xs : List Token) (i d : ℕ) → length xs ≤ i → d ≤ 200 → 200 < opens_from d (drop i xs) → ⊥
at_end_small xs i d h le big = omega (arith, ap (opens_from d) (drop_all xs i h), opens-nil d)
  where
    drop_all : (xs : List Token) (i : ℕ) → length xs ≤ i → drop i xs ≡ []
    drop_all xs i h = grind (arith, common_steps)

pub big_after : (ts : List Token) (t : Token) (d n : ℕ) → n ≡ step t d → 200 < n → 200 < opens_from (step t d) ts
big_after ts t d n e big = omega (arith, opens_least (step t d) ts)
