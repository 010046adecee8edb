-- One more step of a loop that narrows a set.
use Rattle.std.proofs.Common.{◌≡◌, ◌&&◌, ◌||◌, Bool, true, false, refl, sym, ap}

-- a set with some conditions has two more
pub two_more : (s t p n : Bool) → (((s && t) && p) && n) ≡ (s && (t && (p && n)))
two_more true true p n = refl
two_more true false p n = refl
two_more false t p n = refl

-- one more form, which is not a sign and fits
pub form_added : (t s f : Bool) → s ≡ false → (t && f) ≡ (t && (s || f))
form_added t s f h = ap (λ b. t && (b || f)) (sym h)

-- one more form, which is a sign
pub sign_kept : (t s f : Bool) → s ≡ true → t ≡ (t && (s || f))
sign_kept true s f h = ap (λ b. b || f) (sym h)
sign_kept false s f h = refl
