-- Conjunctions of tests, and properties of each rule of a patch.
use Rattle.std.proofs.Common.{◌≡◌, ◌⊎◌, inl, inr, Bool, true, false, not, ◌&&◌, ◌||◌, refl, List, [], ◌∷◌, ◌++◌}
use Rattle.std.specs.List.{AllByRecursion}
use Rattle.smpl_patch.specs.declared.rule.Rule.{Rule}
use Rattle.smpl_patch.specs.Sound.{IsSoundRule, AreSoundRules}

pub and-left : (a b : Bool) → (a && b) ≡ true → a ≡ true
and-left true b e = refl
and-left false b e = e

pub and-right : (a b : Bool) → (a && b) ≡ true → b ≡ true
and-right true b e = e
and-right false b e = absurd cc

pub and-both : (a b : Bool) → a ≡ true → b ≡ true → (a && b) ≡ true
and-both true b e f = f
and-both false b e f = absurd cc

pub either : (a b : Bool) → (a || b) ≡ true → (a ≡ true) ⊎ (b ≡ true)
either true b e = inl refl
either false b e = inr e

pub neither-left : (a b : Bool) → (a || b) ≡ false → a ≡ false
neither-left true b e = absurd cc
neither-left false b e = refl

pub neither-right : (a b : Bool) → (a || b) ≡ false → b ≡ false
neither-right true b e = absurd cc
neither-right false b e = e

pub not-true : (b : Bool) → not b ≡ true → b ≡ false
not-true true e = absurd cc
not-true false e = refl

-- ---- rules

-- what follows from something that holds of each rule holds of each
pub each-then : (P Q : Rule → Type 0) → ((r : Rule) → P r → Q r) → (rs : List Rule) → AllByRecursion P rs → AllByRecursion Q rs
each-then P Q f [] h = tt
each-then P Q f (r ∷ rs) h = (f r h.0, each-then P Q f rs h.1)

pub each-both : (P Q : Rule → Type 0) (rs : List Rule) → AllByRecursion P rs → AllByRecursion Q rs → AllByRecursion (λ r. P r × Q r) rs
each-both P Q [] h k = tt
each-both P Q (r ∷ rs) h k = ((h.0, k.0), each-both P Q rs h.1 k.1)

-- what each sound rule has, whatever rules stand before it
pub sound-each : (P : Rule → Type 0) → ((earlier : List Rule) (r : Rule) → IsSoundRule earlier r → P r) → (earlier rs : List Rule)
    → AreSoundRules earlier rs → AllByRecursion P rs
sound-each P f earlier [] s = tt
sound-each P f earlier (r ∷ rs) s = (f earlier r s.0, sound-each P f (earlier ++ r ∷ []) rs s.1)
