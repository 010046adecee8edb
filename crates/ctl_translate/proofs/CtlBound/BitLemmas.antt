-- Each bit of a mask is computed separately.
use Rattle.std.proofs.Common.{◌≡◌, ℕ, zero, suc, ◌-◌, ◌^◌, ◌<◌, ◌%◌, ◌*◌, min, max, true, false, not, ◌&&◌, ◌||◌, arith, refl, ap, ◌∙◌, inl, inr, ◌⊎◌, w64}
use Rattle.std.proofs.Common.{◌≢◌}
use Rattle.std.specs.Prelude.{bit_and, bit_or, nat_eq}
use Rattle.std.specs.Int.{bit_at, bit_not}
use Rattle.std.proofs.lemmas.Nat.Bits.{bit_at_and, bit_at_or, bit_at_not, bit_at-zero, bit_at_ones, bit_at-lt, bit_at_set_same}
use Rattle.std.proofs.lemmas.Nat.Bits.{bit_at_set_other}
use Rattle.ctl_translate.specs.CtlBound.Bits.{is_bit}

two : (a : ℕ) → a < 2 → (a ≡ 0) ⊎ (a ≡ 1)
two zero h = inl refl
two (suc zero) h = inr refl
two (suc (suc a)) h = absurd (omega (arith, h))

of-min : (a b : ℕ) → a < 2 → b < 2 → nat_eq (min a b) 1 ≡ (nat_eq a 1 && nat_eq b 1)
of-min a b h k = elim (two a h) [
  | inl e ↦ elim (two b k) [ inl f ↦ rw (e, f) | inr f ↦ rw (e, f) ]
  | inr e ↦ elim (two b k) [ inl f ↦ rw (e, f) | inr f ↦ rw (e, f) ]
]

of-max : (a b : ℕ) → a < 2 → b < 2 → nat_eq (max a b) 1 ≡ (nat_eq a 1 || nat_eq b 1)
of-max a b h k = elim (two a h) [
  | inl e ↦ elim (two b k) [ inl f ↦ rw (e, f) | inr f ↦ rw (e, f) ]
  | inr e ↦ elim (two b k) [ inl f ↦ rw (e, f) | inr f ↦ rw (e, f) ]
]

of-less : (a : ℕ) → a < 2 → nat_eq (1 - a) 1 ≡ not (nat_eq a 1)
of-less a h = elim (two a h) [ inl e ↦ rw e | inr e ↦ rw e ]

pub is_bit-and : (a b k : ℕ) → is_bit (bit_and a b) k ≡ (is_bit a k && is_bit b k)
unfolding is_bit
is_bit-and a b k =
    ap (λ z. nat_eq z 1) (bit_at_and a b k) ∙ of-min (bit_at a k) (bit_at b k) (bit_at-lt a k) (bit_at-lt b k)

pub is_bit-or : (a b k : ℕ) → is_bit (bit_or a b) k ≡ (is_bit a k || is_bit b k)
unfolding is_bit
is_bit-or a b k =
    ap (λ z. nat_eq z 1) (bit_at_or a b k) ∙ of-max (bit_at a k) (bit_at b k) (bit_at-lt a k) (bit_at-lt b k)

pub is_bit-not : (n k : ℕ) → n < 2 ^ 64 → k < 64 → is_bit (bit_not w64 n) k ≡ not (is_bit n k)
unfolding is_bit
is_bit-not n k h l = ap (λ z. nat_eq z 1) (bit_at_not w64 n k h l) ∙ of-less (bit_at n k) (bit_at-lt n k)

pub is_bit-zero : (k : ℕ) → is_bit 0 k ≡ false
unfolding is_bit
is_bit-zero k = ap (λ z. nat_eq z 1) (bit_at-zero k)

pub is_bit-ones : (k : ℕ) → k < 64 → is_bit (2 ^ 64 - 1) k ≡ true
unfolding is_bit
is_bit-ones k h = ap (λ z. nat_eq z 1) (bit_at_ones 64 k h)

-- one more bit
pub is_bit-set_same : (n k : ℕ) → k < 64 → is_bit (bit_or n (1 * 2 ^ k % 2 ^ 64)) k ≡ true
unfolding is_bit
is_bit-set_same n k h = ap (λ z. nat_eq z 1) (bit_at_set_same w64 n k h)

pub is_bit-set_other : (n k i : ℕ) → k < 64 → i ≢ k → is_bit (bit_or n (1 * 2 ^ k % 2 ^ 64)) i ≡ is_bit n i
unfolding is_bit
is_bit-set_other n k i h d = ap (λ z. nat_eq z 1) (bit_at_set_other w64 n k h i d)
