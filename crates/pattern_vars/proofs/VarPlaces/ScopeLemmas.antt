-- The places of a sequence's elements share one list of what is quantified around them.
use Rattle.std.proofs.Common.{◌≡◌, ℕ, ◌+◌, ◌<◌, ◌≤◌, sym, ap, ◌∙◌, subst, arith, List, [], ◌∷◌, ◌++◌, length, get_or, take, drop, append_assoc, append-nil}
use Rattle.std.proofs.Math.Seq.{drop-append_seam, take-append_seam, take-add}
use Rattle.std.proofs.lemmas.List.{drop_more, drop-drop, length-append, length-drop}
use Rattle.pattern_vars.proofs.SetLemmas.{drop-end}
use Rattle.smpl_terms.specs.declared.var.Var.{Var}
use Rattle.pattern_vars.specs.declared.var_places.place.Place.{Place}
use Rattle.pattern_vars.specs.declared.var_places.place.Shares.{Shares}
use Rattle.pattern_vars.specs.VarPlaces.Homes.{all_here, scoped}

at-here : (shares : List Shares) (i : ℕ) (s : Shares) → i < length shares → s ≡ get_or shares i s → drop i shares ≡ s ∷ drop (i + 1) shares
at-here shares i s l q = drop_more shares i s l ∙ ap (λ (z : Shares). z ∷ drop (i + 1) shares) (sym q)

none-left : (shares : List Shares) (i : ℕ) → i ≡ length shares → drop i shares ≡ []
none-left shares i l = ap (λ (k : ℕ). drop k shares) l ∙ drop-end shares

-- the variables of one more suffix
pub around-step : (shares : List Shares) (i : ℕ) (s : Shares) (here old new whole : List Var) → i < length shares → s ≡ get_or shares i s → here ≡ s.here
    → new ≡ old ++ here → old ++ all_here (drop i shares) ≡ whole → new ++ all_here (drop (i + 1) shares) ≡ whole
around-step shares i s here old new whole l q h n o =
    let rest = all_here (drop (i + 1) shares) in
    ap (λ (z : List Var). z ++ rest) (n ∙ ap (λ (z : List Var). old ++ z) h) ∙ append_assoc old s.here rest
    ∙ ap (λ (z : List Shares). old ++ all_here z) (sym (at-here shares i s l q)) ∙ o

pub around-end : (shares : List Shares) (i : ℕ) (old whole : List Var) → i ≡ length shares → old ++ all_here (drop i shares) ≡ whole → old ≡ whole
around-end shares i old whole l o = sym (append-nil old) ∙ ap (λ (z : List Shares). old ++ all_here z) (sym (none-left shares i l)) ∙ o

-- the places of the first i elements are found, and the suffixes at them quantify the first `count` variables
pub record AreScoped (shares : List Shares) (scope vars : List Var) (i count : ℕ) (found : List Place) : Type 0 where
  pub within : count ≤ length vars
  pub left : drop count vars ≡ all_here (drop i shares)
  pub are : found ++ scoped (drop i shares) (scope ++ take count vars) ≡ scoped shares scope

pub scoped-none : (shares : List Shares) (scope vars : List Var) (found : List Place) → vars ≡ all_here shares → found ≡ []
    → AreScoped shares scope vars 0 0 found
scoped-none shares scope vars found v f = record {
  within = omega arith;
  left = v;
  are = ap (λ (z : List Place). z ++ scoped shares (scope ++ [])) f ∙ ap (scoped shares) (append-nil scope);
}

left-is : (shares : List Shares) (i : ℕ) (s : Shares) (n : ℕ) (vars : List Var) → i < length shares → s ≡ get_or shares i s
    → drop n vars ≡ all_here (drop i shares)
    → drop n vars ≡ s.here ++ all_here (drop (i + 1) shares)
left-is shares i s n vars l q h = h ∙ ap all_here (at-here shares i s l q)

-- the variables of the next suffix are there
pub scoped-within : (shares : List Shares) (scope vars : List Var) (i count : ℕ) (found : List Place) (s : Shares) → i < length shares → s ≡ get_or shares i s
    → AreScoped shares scope vars i count found → count + length s.here ≤ length vars
scoped-within shares scope vars i count found s l q h =
    let rest = all_here (drop (i + 1) shares) in
    omega (arith, h.within, length-drop count vars, ap (λ (z : List Var). length z) (left-is shares i s count vars l q h.left), length-append s.here rest)

scoped-step : (shares : List Shares) (scope vars : List Var) (i count : ℕ) (old new : List Place) (s : Shares) (p : Place)
    → i < length shares → s ≡ get_or shares i s
    → p ≡ record { here = s.here; inside = s.inside; scope = scope ++ take (count + length s.here) vars } → new ≡ old ++ p ∷ []
    → AreScoped shares scope vars i count old → AreScoped shares scope vars (i + 1) (count + length s.here) new
scoped-step shares scope vars i count old new s p l q e n h =
    let k = length s.here in
    let rest = all_here (drop (i + 1) shares) in
    let more = drop (i + 1) shares in
    let here = left-is shares i s count vars l q h.left in
    let around : scope ++ take (count + k) vars ≡ (scope ++ take count vars) ++ s.here =
    ap (λ (z : List Var). scope ++ z) (take-add count k vars ∙ ap (λ (z : List Var). take count vars ++ z) (ap (take k) here ∙ take-append_seam s.here rest))
    ∙ sym (append_assoc scope (take count vars) s.here) in
    record {
      within = scoped-within shares scope vars i count old s l q h;
      left = sym (drop-drop k count vars) ∙ ap (drop k) here ∙ drop-append_seam s.here rest;
      are = ap (λ (z : List Place). z ++ scoped more (scope ++ take (count + k) vars)) (n ∙ ap (λ (z : Place). old ++ z ∷ []) e)
          ∙ append_assoc old _ (scoped more (scope ++ take (count + k) vars))
          ∙ ap (λ (z : List Var). old ++ (let place : Place = record { here = s.here; inside = s.inside; scope = z } in place ∷ scoped more z)) around
          ∙ ap (λ (z : List Shares). old ++ scoped z (scope ++ take count vars)) (sym (at-here shares i s l q)) ∙ h.are;
    }

-- one more place
pub scoped-more : (shares : List Shares) (scope vars : List Var) (i count k : ℕ) (old new : List Place) (s : Shares) (p : Place)
    → i < length shares → s ≡ get_or shares i s
    → k ≡ length s.here → p ≡ record { here = s.here; inside = s.inside; scope = scope ++ take (count + k) vars } → new ≡ old ++ p ∷ []
    → AreScoped shares scope vars i count old → AreScoped shares scope vars (i + 1) (count + k) new
scoped-more shares scope vars i count k old new s p l q t e n h =
    subst (λ (z : ℕ). AreScoped shares scope vars (i + 1) (count + z) new) (sym t)
    (scoped-step shares scope vars i count old new s p l q
    (e ∙ ap (λ (z : ℕ). let place : Place = record { here = s.here; inside = s.inside; scope = scope ++ take (count + z) vars } in place) t) n h)

pub scoped-end : (shares : List Shares) (scope vars : List Var) (i count : ℕ) (found : List Place) → i ≡ length shares
    → AreScoped shares scope vars i count found → found ≡ scoped shares scope
scoped-end shares scope vars i count found l h =
    sym (append-nil found) ∙ ap (λ (z : List Shares). found ++ scoped z (scope ++ take count vars)) (sym (none-left shares i l)) ∙ h.are
