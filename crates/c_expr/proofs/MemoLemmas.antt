-- What is kept of trees, as the code's answers cite it.
use Rattle.std.proofs.Common.{◌≡◌, ℕ, zero, suc, ◌+◌, ◌-◌, ◌≤◌, ◌<◌, List, [], ◌∷◌, ◌++◌, drop, set, refl, subst, ap, sym, ◌∙◌, arith}
use Rattle.std.proofs.lemmas.List.{drop-set-lt}
use Rattle.std.proofs.lemmas.Bool.Decides.{nat_tests}
use Rattle.std.specs.Prelude.{Bool, true, false, ◌&&◌, IsTrue, Option, Some, None, nat_le, slice_get, if◌then◌else◌}
use Rattle.c_terms.specs.declared.tree.Tree.{Tree}
use Rattle.c_terms.specs.Trees.{levels}
use Rattle.c_rows.specs.declared.kind.Kind.{Kind}
use Rattle.c_rows.specs.Kinds.{within}
use Rattle.c_rows.specs.Seen.{Seen, front}
use Rattle.c_rows.specs.Spells.{Spells}
use Rattle.c_rows.proofs.Checks.{and_left, and_right}
use Rattle.c_expr.specs.declared.memo.Recognizer.{Recognizer}
use Rattle.c_expr.specs.declared.memo.Entry.{Entry}
use Rattle.c_expr.specs.Steps.{OnlyTree, NoTreeAt}
use Rattle.c_expr.specs.Recognizers.{Known, low, IsRight, AreRight}
use Rattle.c_expr.proofs.Growing.{lift, stops_mono}

-- ---- fewer levels

fewer_only : (most n : ℕ) (k : Kind) (xs ys : List Seen) (t : Tree) → n ≤ most → OnlyTree most k xs t ys → OnlyTree n k xs t ys
fewer_only most n k xs ys t le one u zs d s l = one u zs d s (omega arith)

fewer_none : (most n : ℕ) (k : Kind) (xs : List Seen) → n ≤ most → NoTreeAt most k xs → NoTreeAt n k xs
fewer_none most n k xs le none u zs d s l = none u zs d s (omega arith)

-- what is known at one bound gives what holds at each smaller one
pub low_known : (most n : ℕ) (k : Kind) (seen : List Seen) (i : ℕ) (found : Option Recognizer) → n ≤ most
    → Known most k seen i found → Known n k seen i (low n found)
low_known most n k seen i None le none = fewer_none most n k (drop i seen) le none
low_known most n k seen i (Some o) le h = pick (nat_le o.levels n) refl
  where
    pick : (b : Bool) → nat_le o.levels n ≡ b → Known n k seen i (if b then Some o else None)
    pick true e = record {
      tree = h.tree;
      spelled = h.spelled;
      only = fewer_only most n k (drop i seen) (drop o.end seen) h.tree le h.only;
      is = record { facts = h.is.facts; deep = (h.is.deep.0, grind (arith, nat_tests)) };
      ahead = h.ahead;
    }
    pick false e = λ u zs d s l.
        let high : n < o.levels = grind (arith, nat_tests) in
        let same = h.only u zs d s (omega arith) in
        omega (arith, high, h.is.deep.0, ap levels same.0)

-- ---- kinds with the same trees

same_only : (most : ℕ) (k m : Kind) (xs ys : List Seen) (t : Tree) → IsTrue (within k m) → IsTrue (within m k)
    → OnlyTree most k xs t ys → OnlyTree most m xs t ys
same_only most k m xs ys t v w one u zs d s l = one u zs (lift w d) (stops_mono k m (front zs) v s) l

same_none : (most : ℕ) (k m : Kind) (xs : List Seen) → IsTrue (within k m) → IsTrue (within m k) → NoTreeAt most k xs → NoTreeAt most m xs
same_none most k m xs v w none u zs d s l = none u zs (lift w d) (stops_mono k m (front zs) v s) l

same_known : (most : ℕ) (k m : Kind) (seen : List Seen) (i : ℕ) (found : Option Recognizer) → IsTrue (within k m)
    → IsTrue (within m k) → Known most k seen i found → Known most m seen i found
same_known most k m seen i None v w none = same_none most k m (drop i seen) v w none
same_known most k m seen i (Some o) v w h = record {
  tree = h.tree;
  spelled = lift v h.spelled;
  only = same_only most k m (drop i seen) (drop o.end seen) h.tree v w h.only;
  is = h.is;
  ahead = h.ahead;
}

-- ---- all that is kept

pub right_got : (from : ℕ) (seen : List Seen) (es : List Entry) (i : ℕ) (e : Entry) → AreRight from seen es → slice_get es i ≡ Some e → IsRight from seen e
right_got from seen [] i e r g = let no : ⊥ = cc in absurd no
right_got from seen (x ∷ es) zero e r g = let same : x ≡ e = cc in subst (λ (y : Entry). IsRight from seen y) same r.0
right_got from seen (x ∷ es) (suc i) e r g = right_got from seen es i e r.1 g

pub right_more : (from : ℕ) (seen : List Seen) (es : List Entry) (e : Entry) → AreRight from seen es → IsRight from seen e → AreRight from seen (es ++ e ∷ [])
right_more from seen [] e r h = (h, tt)
right_more from seen (x ∷ es) e r h = (r.0, right_more from seen es e r.1 h)

pub right_lower : (from to : ℕ) (seen : List Seen) (es : List Entry) → to ≤ from → AreRight from seen es → AreRight to seen es
right_lower from to seen [] le r = tt
right_lower from to seen (x ∷ es) le r = (record { behind = omega (arith, r.0.behind); known = r.0.known }, right_lower from to seen es le r.1)

known_set : (most : ℕ) (k : Kind) (seen : List Seen) (i j : ℕ) (x : Seen) (found : Option Recognizer) → j < i
    → Known most k seen i found → Known most k (set seen j x) i found
known_set most k seen i j x None lt none = subst (λ (xs : List Seen). NoTreeAt most k xs) (sym (drop-set-lt i seen j x lt)) none
known_set most k seen i j x (Some o) lt h =
    let here : drop i (set seen j x) ≡ drop i seen = drop-set-lt i seen j x lt in
    let there : drop o.end (set seen j x) ≡ drop o.end seen = drop-set-lt o.end seen j x (omega (arith, lt, h.ahead)) in
    record {
      tree = h.tree;
      spelled = subst (λ (xs : List Seen). Spells k xs h.tree (drop o.end (set seen j x))) (sym here)
          (subst (λ (ys : List Seen). Spells k (drop i seen) h.tree ys) (sym there) h.spelled);
      only = subst (λ (xs : List Seen). OnlyTree most k xs h.tree (drop o.end (set seen j x))) (sym here)
          (subst (λ (ys : List Seen). OnlyTree most k (drop i seen) h.tree ys) (sym there) h.only);
      is = h.is;
      ahead = h.ahead;
    }

-- a token before them is seen in another way
pub right_set : (from : ℕ) (seen : List Seen) (j : ℕ) (x : Seen) (es : List Entry) → j < from → AreRight from seen es → AreRight from (set seen j x) es
right_set from seen j x [] lt r = tt
right_set from seen j x (e ∷ es) lt r = (
  record {
    behind = r.0.behind;
    known = known_set e.most e.kind seen e.at j x e.found
        (omega (arith, lt, r.0.behind)) r.0.known;
  },
  right_set from seen j x es lt r.1,
)

-- what an entry of the place and the kind says
pub right_known : (from : ℕ) (seen : List Seen) (es : List Entry) (i : ℕ) (e : Entry) (most at : ℕ) (m : Kind) (b : Bool)
    → AreRight from seen es → slice_get es i ≡ Some e
    → e.at ≡ at → b ≡ within e.kind m && within m e.kind → IsTrue b → most ≤ e.most → Known most m seen at (low most e.found)
right_known from seen es i e most at m b r g a w holds le =
    let both : IsTrue (within e.kind m && within m e.kind) = sym w ∙ holds in
    let here : Known e.most e.kind seen e.at e.found = (right_got from seen es i e r g).known in
    subst (λ (j : ℕ). Known most m seen j (low most e.found)) a
    (low_known e.most most m seen e.at e.found le
    (same_known e.most e.kind m seen e.at e.found (and_left (within e.kind m) (within m e.kind) both)
    (and_right (within e.kind m) (within m e.kind) both) here))

pub right_memo : (from : ℕ) (seen : List Seen) (old new : List Entry) (e : Entry) → new ≡ old ++ e ∷ [] → AreRight from seen old
    → from ≤ e.at → Known e.most e.kind seen e.at e.found → AreRight from seen new
right_memo from seen old new e n r le h =
    subst (λ (es : List Entry). AreRight from seen es) (sym n) (right_more from seen old e r (record { behind = le; known = h }))

-- ---- from the last token backwards

pub right_none : (from : ℕ) (seen : List Seen) (es : List Entry) → es ≡ [] → AreRight from seen es
right_none from seen es e = subst (λ (xs : List Entry). AreRight from seen xs) (sym e) tt

pub right_before : (seen view : List Seen) (i : ℕ) (a : Seen) (es : List Entry) → view ≡ set seen (i - 1) a → 0 < i
    → AreRight i seen es → AreRight (i - 1 + 1) view es
right_before seen view i a es e pos r =
    let up : i ≡ i - 1 + 1 = omega arith in
    subst (λ (xs : List Seen). AreRight (i - 1 + 1) xs es) (sym e)
    (subst (λ (j : ℕ). AreRight j (set seen (i - 1) a) es) up (right_set i seen (i - 1) a es (omega arith) r))

pub right_after : (seen view : List Seen) (i : ℕ) (b : Seen) (es : List Entry) → view ≡ seen → AreRight (i - 1 + 1) view es
    → AreRight (i - 1) (set seen (i - 1) b) es
right_after seen view i b es e r =
    let r' : AreRight (i - 1 + 1) seen es = subst (λ (xs : List Seen). AreRight (i - 1 + 1) xs es) e r in
    right_lower (i - 1 + 1) (i - 1) (set seen (i - 1) b) es (omega arith) (right_set (i - 1 + 1) seen (i - 1) b es (omega arith) r')
