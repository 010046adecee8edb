-- Keys that are the same are equal.
use Rattle.std.proofs.Common.{◌≡◌, ℕ, Bool, true, false, ◌&&◌, nat_eq, refl, sym, ap, ◌∙◌, true≢false, eqb-true, eq-eqb, Option, Some, None}
use Rattle.std.specs.Option.{option_eq}
use Rattle.c_types.specs.declared.tree_key.TreeKey.{TreeKey}
use Rattle.c_types.specs.TreeKeys.{same_key}

pub and-first : (a b : Bool) → (a && b) ≡ true → a ≡ true
and-first true b h = refl
and-first false b h = h

pub and-second : (a b : Bool) → (a && b) ≡ true → b ≡ true
and-second true b h = h
and-second false b h = absurd (true≢false (sym h))

option-same : (a b : Option ℕ) → option_eq nat_eq a b ≡ true → a ≡ b
option-same None None h = refl
option-same None (Some y) h = absurd (true≢false (sym h))
option-same (Some x) None h = absurd (true≢false (sym h))
option-same (Some x) (Some y) h = ap Some (eqb-true x y h)

option-refl : (a : Option ℕ) → option_eq nat_eq a a ≡ true
option-refl None = refl
option-refl (Some x) = eq-eqb x x refl

pub key-same : (a b : TreeKey) → same_key a b ≡ true → a ≡ b
key-same a b h =
    let f : a.first ≡ b.first = option-same a.first b.first (and-first (option_eq nat_eq a.first b.first) (nat_eq a.levels b.levels) h) in
    let n : a.levels ≡ b.levels = eqb-true a.levels b.levels (and-second (option_eq nat_eq a.first b.first) (nat_eq a.levels b.levels) h) in
    λ i. record { first = f i; levels = n i }

pub key-refl : (a : TreeKey) → same_key a a ≡ true
key-refl a = (λ i. option-refl a.first i && nat_eq a.levels a.levels) ∙ eq-eqb a.levels a.levels refl
