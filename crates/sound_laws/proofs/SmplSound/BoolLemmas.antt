-- Lemmas on `Bool`.
use Rattle.std.proofs.Common.{◌≡◌, Bool, true, false, ◌&&◌, ◌||◌, refl, sym, true≢false}

pub both-true : (a b : Bool) → a ≡ true → b ≡ true → (a && b) ≡ true
both-true true b h g = g
both-true false b h g = absurd (true≢false (sym h))

pub front-true : (a b : Bool) → (a && b) ≡ true → a ≡ true
front-true true b e = refl
front-true false b e = absurd (true≢false (sym e))

pub back-true : (a b : Bool) → (a && b) ≡ true → b ≡ true
back-true true b e = e
back-true false b e = absurd (true≢false (sym e))

pub or-left : (a b : Bool) → a ≡ true → (a || b) ≡ true
or-left true b e = refl
or-left false b e = absurd (true≢false (sym e))

pub or-right : (a b : Bool) → b ≡ true → (a || b) ≡ true
or-right true b e = refl
or-right false b e = e
