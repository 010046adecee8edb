-- A header stops exactly where its tokens no longer begin a header.
use Rattle.std.proofs.Common.{◌≡◌, ℕ, ◌≤◌, ◌⊎◌, inl, inr, Bool, true, false, List, [], ◌∷◌, ◌++◌, Option, Some, None, refl, sym}
use Rattle.std.proofs.Common.{ap, ◌∙◌, subst, codes, if◌then◌else◌}
use Rattle.std.proofs.lemmas.List.{append-nil}
use Rattle.smpl_lexer.specs.declared.token.PatchToken.{PatchToken}
use Rattle.smpl_lexer.specs.declared.places.HeaderPlace.{HeaderPlace}
use Rattle.smpl_lexer.specs.declared.places.HeaderPlace.TheVariants as h
use Rattle.smpl_lexer.specs.Tokens.{is_word}
use Rattle.smpl_lexer.specs.Headers.{after_name, header_stop, header_step, header_ends, stop, stop_at}
use Rattle.smpl_meta.specs.declared.head.RuleHead.{RuleHead}
use Rattle.smpl_meta.specs.Heads.{condition, depends_tokens}
use Rattle.smpl_meta.specs.Spelled.{counted_in, Goes, IsHeader, CanStand, StopsAt}
use Rattle.smpl_meta.specs.Spelled.Goes.{free, depends}
use Rattle.smpl_meta.specs.Spelled.IsHeader.{unnamed, named}
use Rattle.smpl_meta.specs.Spelled.StopsAt.{token, early}
use Rattle.smpl_meta.proofs.Marks.{plain, at_not_on, word_not_on}
use Rattle.smpl_meta.proofs.HasCondition.{skipped, found}
use Rattle.smpl_meta.proofs.Conditions.{Ends}
use Rattle.smpl_meta.proofs.GoesOn.{MayClose, closed, condition_ends, named_closes, opened_closes, named_depends, opened_depends, starts, header_goes_on}
use Rattle.smpl_meta.proofs.Spelling.{header_is_spelled}
use Rattle.smpl_meta.proofs.Passing.{Passes, passed, stops_behind, passes_more, next_step}
use Rattle.smpl_meta.proofs.Passing.Passes.{here, on}
use Rattle.smpl_meta.proofs.Carried.{carried}
use Rattle.smpl_meta.proofs.Standing.{stands}

record Reached (p : HeaderPlace) (xs : List PatchToken) : Type 0 where
  at : HeaderPlace
  passes : Passes p xs at

-- up to here no more is counted than is allowed
abbrev Few : List PatchToken → Type 0
Few xs = counted_in (depends_tokens xs) ≤ 200

few_behind : (t : PatchToken) (xs : List PatchToken) → is_word (codes "on") t ≡ false → Few (t ∷ xs) → Few xs
few_behind t xs other few = subst (λ (l : List PatchToken). counted_in (condition l) ≤ 200) (skipped t xs other) few

few_on : (t : PatchToken) (xs : List PatchToken) → is_word (codes "on") t ≡ true → Few (t ∷ xs) → counted_in (condition xs) ≤ 200
few_on t xs is few = subst (λ (l : List PatchToken). counted_in (condition l) ≤ 200) (found t xs is) few

-- past one token that isn't `on`, or not even that far
through : (p q : HeaderPlace) (t : PatchToken) (ts more xs : List PatchToken) → header_step p t ≡ Some q
    → is_word (codes "on") t ≡ false → ((ys : List PatchToken) → ys ++ more ≡ ts → Few ys → Reached q ys)
    → xs ++ more ≡ t ∷ ts → Few xs → Reached p xs
through p q t ts more [] step other rest e few = record { at = p; passes = here }
through p q t ts more (x ∷ ys) step other rest e few =
    let same : x ≡ t = cc in
    let left : ys ++ more ≡ ts = cc in
    let x_other : is_word (codes "on") x ≡ false = ap (λ (u : PatchToken). is_word (codes "on") u) same ∙ other in
    let r = rest ys left (few_behind x ys x_other few) in
    record { at = r.at; passes = on (ap (λ (u : PatchToken). header_step p u) same ∙ step) r.passes }

module _ (earlier : List RuleHead) where
  reach_ends : (p : HeaderPlace) (ts more xs : List PatchToken) → Ends p ts 0 → xs ++ more ≡ ts → Reached p xs
  reach_ends p ts more xs ends e =
      let r = passed 0 xs more p (subst (λ (l : List PatchToken). Ends p l 0) (sym e) ends) in
      record { at = r.at; passes = r.passes }

  -- from `on`, through a condition in which this many may be counted
  reach_on : (most : ℕ) (o : PatchToken) (ts more xs : List PatchToken) → is_word (codes "on") o ≡ true → Ends (h.Operand 0 most) ts 0
      → xs ++ more ≡ o ∷ ts → Few xs → Reached h.Depends xs
  reach_on most o ts more [] is ends e few = record { at = h.Depends; passes = here }
  reach_on most o ts more (x ∷ ys) is ends e few =
      let same : x ≡ o = cc in
      let left : ys ++ more ≡ ts = cc in
      let x_is : is_word (codes "on") x ≡ true = ap (λ (u : PatchToken). is_word (codes "on") u) same ∙ is in
      let r = reach_ends (h.Operand 0 most) ts more ys ends left in
      let c = carried ys most 200 r.at r.passes (few_on x ys x_is few) in
      record { at = c.at; passes = on (ap (λ (b : Bool). if b then Some (h.Operand 0 200) else None) x_is) c.passes }

  reach_goes : (most : ℕ) (p : HeaderPlace) (ts more xs : List PatchToken) → Goes earlier most ts → MayClose 0 earlier p
      → ((t : PatchToken) → is_word (codes "depends") t ≡ true → header_step p t ≡ Some h.Depends)
      → xs ++ more ≡ ts → Few xs → Reached p xs
  reach_goes most p ts more xs (free last) may on_depends e few = reach_ends p ts more xs (closed 0 earlier p ts last may) e
  reach_goes most p _ more xs (depends {cs = cs} {ts = ts} w o word_is is spelled room last) may on_depends e few =
      through p h.Depends w (o ∷ (cs ++ ts)) more xs (on_depends w word_is) (word_not_on (codes "depends") w word_is refl)
      (λ ys left few'. reach_on most o (cs ++ ts) more ys is (condition_ends 0 earlier most spelled room last) left few') e few

  reach : (most : ℕ) (ts more xs : List PatchToken) → IsHeader earlier most ts → xs ++ more ≡ ts → Few xs → Reached h.Start xs
  reach most _ more xs (unnamed {ts = ts} a is rest) e few =
      through h.Start h.Opened a ts more xs (starts 0 earlier a is) (at_not_on a is)
      (λ ys left few'. reach_goes most h.Opened ts more ys rest (opened_closes 0 earlier) (opened_depends 0 earlier) left few') e few
  reach most _ more xs (named {ts = ts} a n is name_is rest) e few =
      through h.Start h.Opened a (n ∷ ts) more xs (starts 0 earlier a is) (at_not_on a is)
      (λ ys left few'. through h.Opened h.Named n ts more ys (ap (λ (b : Bool). if b then Some h.Named else after_name n) name_is) (plain n name_is).on
      (λ zs left' few''. reach_goes most h.Named ts more zs rest (named_closes 0 earlier) (named_depends 0 earlier) left' few'') left few') e few

  reached : (xs : List PatchToken) → CanStand earlier xs → Reached h.Start xs
  reached xs s = reach s.most (xs ++ s.more) s.more xs s.header refl s.few

  -- ---- where it stops

  record Token (p : HeaderPlace) (ts : List PatchToken) (at : ℕ) : Type 0 where
    front : List PatchToken
    rest : List PatchToken
    first : PatchToken
    place : HeaderPlace
    is : ts ≡ front ++ first ∷ rest
    passes : Passes p front place
    none : header_step place first ≡ None
    here_is : at ≡ first.at

  record Early (p : HeaderPlace) (ts : List PatchToken) (end at : ℕ) : Type 0 where
    place : HeaderPlace
    passes : Passes p ts place
    here_is : at ≡ end

  abbrev Stop : HeaderPlace → List PatchToken → ℕ → ℕ → Type 0
  Stop p ts end at = Token p ts at ⊎ Early p ts end at

  early_by : (p : HeaderPlace) (end at : ℕ) (b : Bool) → stop_at b end ≡ Some at → Early p [] end at
  early_by p end at true e = absurd (cc)
  early_by p end at false e = record { place = p; passes = here; here_is = cc }

  stop_more : (p q : HeaderPlace) (t : PatchToken) (ts : List PatchToken) (end at : ℕ) → header_step p t ≡ Some q → Stop q ts end at
      → Stop p (t ∷ ts) end at
  stop_more p q t ts end at step (inl s) = inl (record {
    front = t ∷ s.front;
    rest = s.rest;
    first = s.first;
    place = s.place;
    is = ap (λ (l : List PatchToken). t ∷ l) s.is;
    passes = on step s.passes;
    none = s.none;
    here_is = s.here_is;
  })
  stop_more p q t ts end at step (inr s) = inr (record { place = s.place; passes = on step s.passes; here_is = s.here_is })

  stop_by : (t : PatchToken) (ts : List PatchToken) (p : HeaderPlace) (end at : ℕ) (o : Option HeaderPlace)
      → ((q : HeaderPlace) → stop header_step header_ends q ts end ≡ Some at → Stop q ts end at) → header_step p t ≡ o
      → elim o as (λ (x : Option HeaderPlace). Option ℕ) [ None ↦ Some t.at | Some q ↦ stop header_step header_ends q ts end ] ≡ Some at
      → Stop p (t ∷ ts) end at
  stop_by t ts p end at None rest is e =
      inl (record { front = []; rest = ts; first = t; place = p; is = refl; passes = here; none = is; here_is = cc })
  stop_by t ts p end at (Some q) rest is e = stop_more p q t ts end at is (rest q e)

  stop_of : (ts : List PatchToken) (p : HeaderPlace) (end at : ℕ) → stop header_step header_ends p ts end ≡ Some at → Stop p ts end at
  stop_of [] p end at e = inr (early_by p end at (header_ends p) e)
  stop_of (t ∷ ts) p end at e = stop_by t ts p end at (header_step p t) (λ q left. stop_of ts q end at left) refl e

  cannot_stand : (front : List PatchToken) (t : PatchToken) (q : HeaderPlace) → Passes h.Start front q → header_step q t ≡ None
      → CanStand earlier (front ++ t ∷ []) → ⊥
  cannot_stand front t q pass none s =
      let n = next_step t pass (reached (front ++ t ∷ []) s).passes in
      let both : None ≡ Some n.place = sym none ∙ n.is in
      absurd (cc)

  stops_at : (ts : List PatchToken) (end at : ℕ) → header_stop ts end ≡ Some at → Stop h.Start ts end at → StopsAt earlier ts end at
  stops_at ts end at e (inl s) =
      subst (λ (n : ℕ). StopsAt earlier ts end n) (sym s.here_is)
      (token s.front s.rest s.first s.is (stands earlier s.front s.place s.passes) (cannot_stand s.front s.first s.place s.passes s.none))
  stops_at ts end at e (inr s) =
      subst (λ (n : ℕ). StopsAt earlier ts end n) (sym s.here_is)
      (early (stands earlier ts s.place s.passes) (λ is. let both : None ≡ Some at = sym (header_goes_on end earlier ts is) ∙ e in absurd (cc)))

  pub stop_is_told : (ts : List PatchToken) (end at : ℕ) → header_stop ts end ≡ Some at → StopsAt earlier ts end at
  stop_is_told ts end at e = stops_at ts end at e (stop_of ts h.Start end at e)

  token_stops : (front rest : List PatchToken) (t : PatchToken) (end : ℕ) (q : HeaderPlace) (o : Option HeaderPlace)
      → Passes h.Start front q → header_step q t ≡ o → (CanStand earlier (front ++ t ∷ []) → ⊥)
      → header_stop (front ++ t ∷ rest) end ≡ Some t.at
  token_stops front rest t end q None pass is cannot =
      stops_behind end (t ∷ rest) pass
      ∙ ap (λ (o : Option HeaderPlace). elim o as (λ (x : Option HeaderPlace). Option ℕ) [
        | None ↦ Some t.at
        | Some r ↦
            stop header_step header_ends r rest end
      ]) is
  token_stops front rest t end q (Some r) pass is cannot = absurd (cannot (stands earlier (front ++ t ∷ []) r (passes_more t pass is)))

  end_stops : (ts : List PatchToken) (end : ℕ) (o : Option ℕ) (b : Bool) → header_stop ts end ≡ o → o ≡ stop_at b end
      → (IsHeader earlier 200 ts → ⊥) → header_stop ts end ≡ Some end
  end_stops ts end o true is e cannot = absurd (cannot (header_is_spelled end earlier ts (is ∙ e)))
  end_stops ts end o false is e cannot = is ∙ e

  pub told_is_stop : (ts : List PatchToken) (end at : ℕ) → StopsAt earlier ts end at → header_stop ts end ≡ Some at
  told_is_stop ts end _ (token front rest t is can cannot) =
      let r = reached front can in
      ap (λ (l : List PatchToken). header_stop l end) is ∙ token_stops front rest t end r.at (header_step r.at t) r.passes refl cannot
  told_is_stop ts end _ (early can cannot) =
      let r = reached ts can in
      let whole : header_stop ts end ≡ stop_at (header_ends r.at) end =
      ap (λ (l : List PatchToken). header_stop l end) (sym (append-nil ts)) ∙ stops_behind end [] r.passes in
      end_stops ts end (header_stop ts end) (header_ends r.at) refl whole cannot
