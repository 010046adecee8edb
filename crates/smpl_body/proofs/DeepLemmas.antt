-- The 201st open bracket, by the count of open brackets.
use Rattle.std.proofs.Common.{◌≡◌, ℕ, ◌+◌, ◌-◌, ◌≤◌, ◌<◌, ◌==◌, Bool, true, false, if◌then◌else◌, refl, ap, arith, List, []}
use Rattle.std.proofs.Common.{◌∷◌, ◌++◌, Option, Some, None, ◌⊎◌, inl, inr}
use Rattle.std.proofs.lemmas.Bool.Decides.{nat_tests}
use Rattle.c_terms.specs.declared.token.Token.{Token}
use Rattle.c_rows.specs.Depth.{opens_one, closes_one, step, opens_from, opens_of}
use Rattle.smpl_patch.specs.declared.fault.PatchFault.{PatchFault}
use Rattle.smpl_patch.specs.declared.fault.PatchFault.TheVariants.{TooDeep}
use Rattle.smpl_meta.specs.declared.patterns.Placed.{Placed}
use Rattle.smpl_body.specs.Deep.{deep_from, deep_fault, tokens, IsFirstTooMany}

step-by : (a b : Bool) (d : ℕ) → (if a then d + 1 else (if b then d - 1 else d)) ≤ d + 1
step-by true b d = omega arith
step-by false true d = omega arith
step-by false false d = omega arith

step-one : (t : Token) (d : ℕ) → step t d ≤ d + 1
step-one t d = step-by (opens_one t.text) (closes_one t.text) d

below : (n : ℕ) → n ≤ 201 → (n == 201) ≡ false → n ≤ 200
below n h e = grind (arith, nat_tests)

not-there : (n : ℕ) → n ≤ 200 → (n == 201) ≡ false
not-there n h = grind (arith, nat_tests)

there : (n : ℕ) → (n == 201) ≡ true → n ≡ 201
there n e = grind (arith, nat_tests)

abbrev no_fault : Option PatchFault
no_fault = None

goes-on : (at : ℕ) (s : ℕ) (ps : List Placed) (b : Bool) → (s == 201) ≡ b → (if b then Some (TooDeep at) else deep_from s ps) ≡ None
    → ((s == 201) ≡ false) × (deep_from s ps ≡ None)
goes-on at s ps true e h = let k : Some (TooDeep at) ≡ no_fault = h in absurd (cc)
goes-on at s ps false e h = (e, h)

low : (d : ℕ) (ps : List Placed) → d ≤ 200 → deep_from d ps ≡ None → opens_from d (tokens ps) ≤ 200
unfolding opens_from
low d [] h e = h
low d (p ∷ ps) h e =
    let r = goes-on p.at (step p.token d) ps (step p.token d == 201) refl e in
    let one = step-one p.token d in
    let n : step p.token d ≤ 200 = below (step p.token d) (omega (arith, one)) r.0 in
    let m = low (step p.token d) ps n r.1 in
    omega (arith, m, h)

at-least : (d : ℕ) (ts : List Token) → d ≤ opens_from d ts
unfolding opens_from
at-least d [] = omega arith
at-least d (t ∷ ts) = omega arith

else-branch : (at : ℕ) (s : ℕ) (ps : List Placed) → (s == 201) ≡ false → deep_from s ps ≡ None → (if s == 201 then Some (TooDeep at) else deep_from s ps) ≡ None
else-branch at s ps e h = rw e h

none : (d : ℕ) (ps : List Placed) → opens_from d (tokens ps) ≤ 200 → deep_from d ps ≡ None
unfolding opens_from
none d [] h = refl
none d (p ∷ ps) h =
    let more = at-least (step p.token d) (tokens ps) in
    else-branch p.at (step p.token d) ps (not-there (step p.token d) (omega (arith, h, more))) (none (step p.token d) ps (omega (arith, h)))

-- a fault of tokens after which this many brackets are open
record From (d : ℕ) (ps : List Placed) (f : PatchFault) : Type 0 where
  before : List Placed
  here : Placed
  behind : List Placed
  are : ps ≡ before ++ here ∷ behind
  is : f ≡ TooDeep here.at
  few : opens_from d (tokens before) ≤ 200
  many : 200 < opens_from d (tokens (before ++ here ∷ []))

here-or-later : (at : ℕ) (s : ℕ) (ps : List Placed) (f : PatchFault) (b : Bool) → (s == 201) ≡ b → (if b then Some (TooDeep at) else deep_from s ps) ≡ Some f
    → (((s == 201) ≡ true) × (f ≡ TooDeep at)) ⊎ (((s == 201) ≡ false) × (deep_from s ps ≡ Some f))
here-or-later at s ps f true e h = let k : Some (TooDeep at) ≡ Some f = h in inl (e, cc)
here-or-later at s ps f false e h = inr (e, h)

from-here : (d : ℕ) (p : Placed) (ps : List Placed) (f : PatchFault) → d ≤ 200 → step p.token d ≡ 201 → f ≡ TooDeep p.at → From d (p ∷ ps) f
unfolding opens_from
from-here d p ps f low e is = record { before = []; here = p; behind = ps; are = refl; is = is; few = low; many = omega (arith, e) }

from-later : (d : ℕ) (p : Placed) (ps : List Placed) (f : PatchFault) → d ≤ 200 → From (step p.token d) ps f → From d (p ∷ ps) f
unfolding opens_from
from-later d p ps f low r = record {
  before = p ∷ r.before;
  here = r.here;
  behind = r.behind;
  are = ap (λ l. p ∷ l) r.are;
  is = r.is;
  few = omega (arith, low, r.few);
  many = omega (arith, r.many);
}

found : (d : ℕ) (ps : List Placed) (f : PatchFault) → d ≤ 200 → deep_from d ps ≡ Some f → From d ps f
found d [] f low e = let k : no_fault ≡ Some f = e in absurd (cc)
found d (p ∷ ps) f low e = elim (here-or-later p.at (step p.token d) ps f (step p.token d == 201) refl e) [
  | inl h ↦ from-here d p ps f low (there (step p.token d) h.0) h.1
  | inr h ↦ from-later d p ps f low
      (found (step p.token d) ps f (below (step p.token d) (omega (arith, step-one p.token d, low)) h.0) h.1)
]

pub few-open : (ps : List Placed) → deep_fault ps ≡ None → opens_of (tokens ps) ≤ 200
few-open ps e = low 0 ps (omega arith) e

pub no-fault : (ps : List Placed) → opens_of (tokens ps) ≤ 200 → deep_fault ps ≡ None
no-fault ps h = none 0 ps h

pub first-too-many : (ps : List Placed) (f : PatchFault) → deep_fault ps ≡ Some f → IsFirstTooMany ps f
first-too-many ps f e =
    let r = found 0 ps f (omega arith) e in
    record { before = r.before; here = r.here; behind = r.behind; are = r.are; is = r.is; few = r.few; many = r.many }
