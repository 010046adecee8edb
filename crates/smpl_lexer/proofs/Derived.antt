-- A table of places, each of which stands for what may come there. It stops exactly where nothing may come.
use Rattle.std.proofs.Common.{◌≡◌, ℕ, Bool, true, false, List, [], ◌∷◌, ◌++◌, Option, Some, None, refl, sym, ap, subst}
use Rattle.smpl_lexer.specs.declared.token.PatchToken.{PatchToken}
use Rattle.smpl_lexer.specs.Headers.{stop, stop_at}
use Rattle.smpl_lexer.specs.Virtuals.{CanStand, StopsAt}
use Rattle.smpl_lexer.specs.Virtuals.StopsAt.{token, early}

-- what may come at a place, by the token that comes first
pub record Derived {P : Type 0} (step : P → PatchToken → Option P) (ends : P → Bool) (May : P → List PatchToken → Type 0) : Type 0 where
  pub into : (p q : P) (t : PatchToken) (ts : List PatchToken) → step p t ≡ Some q → May q ts → May p (t ∷ ts)
  pub out : (p q : P) (t : PatchToken) (ts : List PatchToken) → step p t ≡ Some q → May p (t ∷ ts) → May q ts
  pub none : (p : P) (t : PatchToken) (ts : List PatchToken) → step p t ≡ None → May p (t ∷ ts) → ⊥
  pub ended : (p : P) → ends p ≡ true → May p []
  pub unended : (p : P) → ends p ≡ false → May p [] → ⊥
  pub live : (p : P) → CanStand (May p) []

module _ {P : Type 0} (step : P → PatchToken → Option P) (ends : P → Bool) (May : P → List PatchToken → Type 0) (d : Derived step ends May) (end : ℕ) where
  abbrev Stop : P → List PatchToken → Option ℕ
  Stop p ts = stop step ends p ts end

  abbrev After : PatchToken → List PatchToken → Option P → Option ℕ
  After t ts o = elim o as (λ (x : Option P). Option ℕ) [ None ↦ Some t.at | Some q ↦ Stop q ts ]

  -- ---- a line that is complete

  whole_end : (p : P) (b : Bool) → ends p ≡ b → stop_at b end ≡ None → May p []
  whole_end p true is e = d.ended p is
  whole_end p false is e = absurd (cc)

  whole_step : (p : P) (t : PatchToken) (ts : List PatchToken) (o : Option P) → ((q : P) → Stop q ts ≡ None → May q ts) → step p t ≡ o
      → After t ts o ≡ None → May p (t ∷ ts)
  whole_step p t ts None rest is e = absurd (cc)
  whole_step p t ts (Some q) rest is e = d.into p q t ts is (rest q e)

  pub whole : (ts : List PatchToken) (p : P) → Stop p ts ≡ None → May p ts
  whole [] p e = whole_end p (ends p) refl e
  whole (t ∷ ts) p e = whole_step p t ts (step p t) (λ q left. whole ts q left) refl e

  goes_end : (p : P) (b : Bool) → ends p ≡ b → May p [] → stop_at b end ≡ None
  goes_end p true is may = refl
  goes_end p false is may = absurd (d.unended p is may)

  goes_step : (p : P) (t : PatchToken) (ts : List PatchToken) (o : Option P) → ((q : P) → May q ts → Stop q ts ≡ None) → step p t ≡ o
      → May p (t ∷ ts) → After t ts o ≡ None
  goes_step p t ts None rest is may = absurd (d.none p t ts is may)
  goes_step p t ts (Some q) rest is may = rest q (d.out p q t ts is may)

  pub goes : (ts : List PatchToken) (p : P) → May p ts → Stop p ts ≡ None
  goes [] p may = goes_end p (ends p) refl may
  goes (t ∷ ts) p may = goes_step p t ts (step p t) (λ q left. goes ts q left) refl may

  -- ---- a line that stops

  put_first : (p q : P) (t : PatchToken) (ts : List PatchToken) (at : ℕ) → step p t ≡ Some q → StopsAt (May q) ts end at
      → StopsAt (May p) (t ∷ ts) end at
  put_first p q t ts _ is (token front rest u e can cannot) =
      token (t ∷ front) rest u (ap (λ (l : List PatchToken). t ∷ l) e) (can.0, d.into p q t (front ++ can.0) is can.1)
      (λ more. cannot (more.0, d.out p q t ((front ++ u ∷ []) ++ more.0) is more.1))
  put_first p q t ts _ is (early can cannot) =
      early (can.0, d.into p q t (ts ++ can.0) is can.1) (λ may. cannot (d.out p q t ts is may))

  told_end : (p : P) (at : ℕ) (b : Bool) → ends p ≡ b → stop_at b end ≡ Some at → StopsAt (May p) [] end at
  told_end p at true is e = absurd (cc)
  told_end p at false is e =
      let here : end ≡ at = cc in
      subst (λ (n : ℕ). StopsAt (May p) [] end n) here (early (d.live p) (d.unended p is))

  told_step : (p : P) (t : PatchToken) (ts : List PatchToken) (at : ℕ) (o : Option P)
      → ((q : P) → Stop q ts ≡ Some at → StopsAt (May q) ts end at) → step p t ≡ o → After t ts o ≡ Some at
      → StopsAt (May p) (t ∷ ts) end at
  told_step p t ts at None rest is e =
      let here : t.at ≡ at = cc in
      subst (λ (n : ℕ). StopsAt (May p) (t ∷ ts) end n) here
      (token [] ts t refl (d.live p) (λ more. d.none p t more.0 is more.1))
  told_step p t ts at (Some q) rest is e = put_first p q t ts at is (rest q e)

  pub told : (ts : List PatchToken) (p : P) (at : ℕ) → Stop p ts ≡ Some at → StopsAt (May p) ts end at
  told [] p at e = told_end p at (ends p) refl e
  told (t ∷ ts) p at e = told_step p t ts at (step p t) (λ q left. told ts q at left) refl e

  -- a line that can't continue with a token stops there
  put_back : (p q : P) (t : PatchToken) (ts : List PatchToken) (at : ℕ) → step p t ≡ Some q → StopsAt (May p) (t ∷ ts) end at
      → StopsAt (May q) ts end at
  put_back p q t ts _ is (token [] rest u e can cannot) =
      let same : t ≡ u = cc in
      let live : CanStand (May q) [] = d.live q in
      absurd (cannot (live.0, subst (λ (x : PatchToken). May p (x ∷ live.0)) same (d.into p q t live.0 is live.1)))
  put_back p q t ts _ is (token (x ∷ front) rest u e can cannot) =
      let same : x ≡ t = cc in
      let left : ts ≡ front ++ u ∷ rest = cc in
      token front rest u left
      (can.0, d.out p q t (front ++ can.0) is (subst (λ (y : PatchToken). May p (y ∷ (front ++ can.0))) same can.1))
      (λ more. cannot (
        more.0,
        subst (λ (y : PatchToken). May p (y ∷ ((front ++ u ∷ []) ++ more.0))) (sym same)
            (d.into p q t ((front ++ u ∷ []) ++ more.0) is more.1),
      ))
  put_back p q t ts _ is (early can cannot) =
      early (can.0, d.out p q t (ts ++ can.0) is can.1) (λ may. cannot (d.into p q t ts is may))

  stops_end : (p : P) (b : Bool) → ends p ≡ b → (May p [] → ⊥) → stop_at b end ≡ Some end
  stops_end p true is cannot = absurd (cannot (d.ended p is))
  stops_end p false is cannot = refl

  stops_none : (p : P) (t : PatchToken) (ts : List PatchToken) (at : ℕ) → step p t ≡ None → StopsAt (May p) (t ∷ ts) end at → t.at ≡ at
  stops_none p t ts _ is (token [] rest u e can cannot) = let same : t ≡ u = cc in ap (λ (x : PatchToken). x.at) same
  stops_none p t ts _ is (token (x ∷ front) rest u e can cannot) =
      let same : x ≡ t = cc in
      absurd (d.none p t (front ++ can.0) is (subst (λ (y : PatchToken). May p (y ∷ (front ++ can.0))) same can.1))
  stops_none p t ts _ is (early can cannot) = absurd (d.none p t (ts ++ can.0) is can.1)

  stops_step : (p : P) (t : PatchToken) (ts : List PatchToken) (at : ℕ) (o : Option P)
      → ((q : P) → StopsAt (May q) ts end at → Stop q ts ≡ Some at) → step p t ≡ o → StopsAt (May p) (t ∷ ts) end at
      → After t ts o ≡ Some at
  stops_step p t ts at None rest is s = ap (λ (n : ℕ). Some n) (stops_none p t ts at is s)
  stops_step p t ts at (Some q) rest is s = rest q (put_back p q t ts at is s)

  pub stops : (ts : List PatchToken) (p : P) (at : ℕ) → StopsAt (May p) ts end at → Stop p ts ≡ Some at
  stops [] p _ (token [] rest u e can cannot) = absurd (cc)
  stops [] p _ (token (x ∷ front) rest u e can cannot) = absurd (cc)
  stops [] p _ (early can cannot) = stops_end p (ends p) refl cannot
  stops (t ∷ ts) p at s = stops_step p t ts at (step p t) (λ q left. stops ts q at left) refl s
