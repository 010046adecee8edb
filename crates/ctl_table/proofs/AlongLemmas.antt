-- A sequence is processed from its end: the formula of each suffix is that of its first element before the next one's.
use Rattle.std.proofs.Common.{◌≡◌, ℕ, suc, ◌+◌, ◌<◌, ◌++◌, arith, refl, sym, ap, ◌∙◌, subst, List, [], ◌∷◌, length, get_or, drop, Option, None, Some}
use Rattle.std.specs.List.{filter}
use Rattle.std.proofs.Math.Path.{fun_ext}
use Rattle.smpl_terms.specs.declared.var.Var.{Var}
use Rattle.smpl_patch.specs.declared.elem.Elem.{Elem}
use Rattle.smpl_patch.specs.Bodies.{Element, element, body}
use Rattle.ctl_formula.specs.Plain.{Plain}
use Rattle.ctl_formula.specs.declared.node.Node.{Node}
use Rattle.ctl_formula.specs.Tables.{plains}
use Rattle.ctl_formula.proofs.TableLemmas.{grows-trans}
use Rattle.pattern_vars.specs.VarPlaces.Placing.{Reading, at_suffix}
use Rattle.pattern_vars.specs.VarPlaces.Places.{places, place_at, later_at}
use Rattle.pattern_vars.proofs.VarPlaces.KeptLemmas.{drop-here}
use Rattle.ctl_table.specs.Table as table
use Rattle.pattern_vars.specs.declared.var_places.place.Place.{Place}
use Rattle.ctl_table.specs.declared.follow.Continuation.{Continuation}
use Rattle.ctl_table.specs.Suffixes.{first, begins, along}
use Rattle.ctl_table.specs.Settings.{made_at, follow_of, suffix_at, start_with, MakesFollow}

first-is : (es : List Elem) → table.first_of (body es) ≡ first es
first-is [] = refl
first-is (e ∷ es) = refl

begins-is : (es : List Elem) (s : table.Start) → table.start_of (body es) s ≡ begins es s
begins-is [] s = refl
begins-is (e ∷ es) s = refl

pub length-places : (r : Reading) (es : List Elem) (w s : List Var) → length (places r (body es) w s) ≡ length es
length-places r [] w s = refl
length-places r (e ∷ es) w s = ap suc (length-places r es (later_at r (element e) (body es) w) (s ++ filter (at_suffix r (element e) (body es)) w))

-- the formula of a sequence, element by element
pub along-is : (m : table.Setting) (k : table.Follow) (es : List Elem) (w s : List Var) (before : Option Element) (t : List Var)
    → table.seq m before (body es) k w s t ≡ along m k es (places m.reading (body es) w s) before t
along-is m k [] w s before t = refl
along-is m k (e ∷ es) w s before t =
    let p = place_at m.reading (element e) (body es) w s in
    let l = later_at m.reading (element e) (body es) w in
    ap (λ (z : Option Element). suffix_at m z (element e)
    (record { start = table.start_of (body es) k.start; at = λ u. table.seq m (Some (element e)) (body es) k l p.scope u }) p before t) (first-is es)
    ∙ ap (λ (z : table.Start). suffix_at m (first es) (element e)
    (record { start = z; at = λ u. table.seq m (Some (element e)) (body es) k l p.scope u }) p before t) (begins-is es k.start)
    ∙ ap (λ (z : List Var → Plain). suffix_at m (first es) (element e) (record { start = begins es k.start; at = z }) p before t)
    (fun_ext (λ u. along-is m k es l p.scope (Some (element e)) u))

-- one element earlier
pub along-step : (m : table.Setting) (k : table.Follow) (a b c : List Node) (f g : Continuation) (es : List Elem) (ps : List Place) (e : Elem) (p : Place)
    → MakesFollow m a b f (begins es k.start) (along m k es ps)
    → MakesFollow m b c g (start_with (element e)) (suffix_at m (first es) (element e) (follow_of (plains b) m (Some (element e)) f) p)
    → MakesFollow m a c g (begins (e ∷ es) k.start) (along m k (e ∷ es) (p ∷ ps))
along-step m k a b c f g es ps e p x y = record {
  within = y.within;
  starts = y.starts;
  first = y.first;
  is = λ before t. y.is before t
      ∙ ap (λ (z : table.Start). suffix_at m (first es) (element e)
      (record { start = z; at = λ u. made_at (plains b) m (Some (element e)) f u }) p before t) x.starts
      ∙ ap (λ (z : List Var → Plain). suffix_at m (first es) (element e) (record { start = begins es k.start; at = z }) p before t)
      (fun_ext (λ u. x.is (Some (element e)) u));
  grows = grows-trans a b c x.grows y.grows;
}

drop-end : {A : Type 0} (xs : List A) (n : ℕ) → n ≡ length xs → drop n xs ≡ []
drop-end [] n e = ap (λ (z : ℕ). drop z []) e
drop-end (x ∷ xs) n e = ap (λ (z : ℕ). drop z (x ∷ xs)) e ∙ drop-end xs (length xs) refl

-- the formula of a list's suffixes, stated about the lists that are left
abbrev Reaches : table.Setting → table.Follow → List Node → List Node → Continuation → List Elem → List Place → Type 0
Reaches m k a b f es ps = MakesFollow m a b f (begins es k.start) (along m k es ps)

-- the last suffix
pub suffixes-last : (m : table.Setting) (k : table.Follow) (a b : List Node) (f : Continuation) (es : List Elem)
    (ps : List Place) (i : ℕ) (e : Elem) (p : Place)
    → i + 1 ≡ length es → length ps ≡ length es → e ≡ get_or es i e → p ≡ get_or ps i p
    → MakesFollow m a b f (start_with (element e)) (suffix_at m None (element e) k p)
    → MakesFollow m a b f (begins (drop i es) k.start) (along m k (drop i es) (drop i ps))
suffixes-last m k a b f es ps i e p n o q r x =
    let es_are : drop i es ≡ e ∷ [] = drop-here es i e (omega (arith, n)) q ∙ ap (λ (z : List Elem). e ∷ z) (drop-end es (i + 1) n) in
    let ps_are : drop i ps ≡ p ∷ [] = drop-here ps i p (omega (arith, n, o)) r ∙ ap (λ (z : List Place). p ∷ z) (drop-end ps (i + 1) (n ∙ sym o)) in
    subst (λ (z : List Elem). Reaches m k a b f z (drop i ps)) (sym es_are) (subst (λ (z : List Place). Reaches m k a b f (e ∷ []) z) (sym ps_are) x)

-- the suffix before
pub suffixes-step : (m : table.Setting) (k : table.Follow) (a b c : List Node) (f g : Continuation) (es : List Elem)
    (ps : List Place) (i : ℕ) (d e : Elem) (p : Place)
    → i + 1 < length es → length ps ≡ length es → d ≡ get_or es (i + 1) d → e ≡ get_or es i e → p ≡ get_or ps i p
    → MakesFollow m a b f (begins (drop (i + 1) es) k.start) (along m k (drop (i + 1) es) (drop (i + 1) ps))
    → MakesFollow m b c g (start_with (element e)) (suffix_at m (Some (element d)) (element e) (follow_of (plains b) m (Some (element e)) f) p)
    → MakesFollow m a c g (begins (drop i es) k.start) (along m k (drop i es) (drop i ps))
suffixes-step m k a b c f g es ps i d e p n o t q r x y =
    let es_are : drop i es ≡ e ∷ drop (i + 1) es = drop-here es i e (omega (arith, n)) q in
    let ps_are : drop i ps ≡ p ∷ drop (i + 1) ps = drop-here ps i p (omega (arith, n, o)) r in
    let after : Some (element d) ≡ first (drop (i + 1) es) = sym (ap first (drop-here es (i + 1) d n t)) in
    let z : MakesFollow m b c g (start_with (element e)) (suffix_at m (first (drop (i + 1) es)) (element e) (follow_of (plains b) m (Some (element e)) f) p) =
    subst (λ (v : Option Element). MakesFollow m b c g (start_with (element e))
    (suffix_at m v (element e) (follow_of (plains b) m (Some (element e)) f) p)) after y in
    subst (λ (v : List Elem). Reaches m k a c g v (drop i ps)) (sym es_are)
    (subst (λ (v : List Place). Reaches m k a c g (e ∷ drop (i + 1) es) v) (sym ps_are)
    (along-step m k a b c f g (drop (i + 1) es) (drop (i + 1) ps) e p x z))
