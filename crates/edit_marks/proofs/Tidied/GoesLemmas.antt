-- What flags say of bodies is what the edits say.
use Rattle.std.proofs.Common.{◌≡◌, ◌<◌, ◌-◌, ◌==◌, ◌&&◌, ◌||◌, ℕ, zero, suc, Bool, refl, ap, subst, List, [], ◌∷◌, length, get_or, drop}
use Rattle.std.specs.Prelude.{All, Option, None, Some, false, filter, not, option_and_then, slice_get, slice_range, if◌then◌else◌}
use Rattle.std.specs.List.{cons_option, filter_map, list_all, list_any}
use Rattle.std.proofs.lemmas.List.Elements.{All-head, All-tail, All-take, All-drop}
use Rattle.edit_marks.specs.declared.edit_conflict.edit.Edit.{Edit}
use Rattle.edit_marks.specs.declared.tidy.bodies.Changes.{Changes}
use Rattle.edit_marks.specs.declared.tidy.shape.Body.{Body}
use Rattle.edit_marks.specs.declared.tidy.shape.Outline.{Outline}
use Rattle.edit_marks.specs.Tidy.Bodies.{Acts, acts_in, acts_of, are_bare, goes_whole, goes_with_else, is_bare, leaf_stays, may_stay, stays_of, staying}
use Rattle.edit_marks.specs.Tidy.Bodies.{AreChanges, AreFlags, without, without_flagged}

-- two that say the same of the first tokens, of which there are this many
pub record AgreeBelow (count : ℕ) (a b : Acts) : Type 0 where
  pub goes : (n : ℕ) → n < count → a.goes n ≡ b.goes n
  pub comes : (n : ℕ) → n < count → a.comes n ≡ b.comes n
  pub behind : (n : ℕ) → n < count → a.comes_behind n ≡ b.comes_behind n

leaf_below : (count : ℕ) (leaves : List ℕ) (k n : ℕ) → All (λ m. m < count) leaves → slice_get leaves k ≡ Some n → n < count
leaf_below count [] k n h at = absurd cc
leaf_below count (x ∷ leaves) zero n h at = let same : x ≡ n = cc in subst (λ (m : ℕ). m < count) same (All-head (λ m. m < count) x leaves h)
leaf_below count (x ∷ leaves) (suc k) n h at = leaf_below count leaves k n (All-tail (λ m. m < count) x leaves h) at

module _ (count : ℕ) (a b : Acts) (agree : AgreeBelow count a b) where
  bare_one : (n : ℕ) → n < count → is_bare a n ≡ is_bare b n
  bare_one n less = λ i. agree.goes n less i && not (agree.comes n less i)

  bare_all : (xs : List ℕ) → All (λ n. n < count) xs → list_all (is_bare a) xs ≡ list_all (is_bare b) xs
  bare_all [] h = refl
  bare_all (x ∷ xs) h =
      let one = bare_one x (All-head (λ n. n < count) x xs h) in
      let rest = bare_all xs (All-tail (λ n. n < count) x xs h) in
      λ i. one i && rest i

  module _ (leaves : List ℕ) (below : All (λ n. n < count) leaves) where
    bare_range : (from to : ℕ) → are_bare a leaves from to ≡ are_bare b leaves from to
    bare_range from to =
        bare_all (slice_range leaves from to) (All-take (λ n. n < count) (to - from) (drop from leaves) (All-drop (λ n. n < count) from leaves below))

    leaf_same : (k : ℕ) (o : Option ℕ) → slice_get leaves k ≡ o → leaf_stays a o ≡ leaf_stays b o
    leaf_same k None at = refl
    leaf_same k (Some n) at = ap not (agree.goes n (leaf_below count leaves k n below at))

    with_else : (word : ℕ) (end : Option ℕ) → goes_with_else a leaves word end ≡ goes_with_else b leaves word end
    with_else word None = refl
    with_else word (Some end) =
        let one = leaf_same word (slice_get leaves word) refl in
        let rest = bare_range word end in
        λ i. one i || rest i

    whole : (d : Body) (lead : ℕ) → lead < count → goes_whole a leaves d lead ≡ goes_whole b leaves d lead
    whole d lead less =
        let own = bare_range d.leaves.from d.leaves.to in
        let second = with_else d.leaves.to d.second_end in
        λ i. not (agree.goes lead less i) && not (agree.behind lead less i) && own i && second i

    by_lead : (d : Body) (o : Option ℕ) → slice_get leaves (d.leaves.from - 1) ≡ o
        → option_and_then (λ lead. if goes_whole a leaves d lead then slice_get leaves (d.leaves.to - 1) else None) o
        ≡ option_and_then (λ lead. if goes_whole b leaves d lead then slice_get leaves (d.leaves.to - 1) else None) o
    by_lead d None at = refl
    by_lead d (Some lead) at =
        ap (λ (x : Bool). if x then slice_get leaves (d.leaves.to - 1) else None)
        (whole d lead (leaf_below count leaves (d.leaves.from - 1) lead below at))

    stays_same : (d : Body) → stays_of a leaves d ≡ stays_of b leaves d
    stays_same d = ap (λ (o : Option ℕ). if may_stay d then o else None) (by_lead d (slice_get leaves (d.leaves.from - 1)) refl)

    all_same : (bodies : List Body) → filter_map (stays_of a leaves) bodies ≡ filter_map (stays_of b leaves) bodies
    all_same [] = refl
    all_same (d ∷ bodies) = let rest = all_same bodies in let one = stays_same d in λ i. cons_option (one i) (rest i)

pub staying_same : (count : ℕ) (edits : List Edit) (changes : Changes) → AreChanges count edits changes → (outline : Outline)
    → All (λ n. n < count) outline.leaves.items → staying (acts_in changes) outline ≡ staying (acts_of edits) outline
staying_same count edits changes are outline below =
    let agree : AgreeBelow count (acts_in changes) (acts_of edits) = record { goes = are.removed.each; comes = are.inserts.each; behind = are.after.each } in
    all_same count (acts_in changes) (acts_of edits) agree outline.leaves.items below outline.bodies.items

module _ (count : ℕ) (stays : List ℕ) (flags : List Bool) (are : AreFlags count (λ n. list_any (λ m. m == n) stays) flags) where
  left_same : (removed : List ℕ) → All (λ n. n < count) removed
      → filter (λ n. not (get_or flags n false)) removed ≡ filter (λ n. not (list_any (λ m. m == n) stays)) removed
  left_same [] h = refl
  left_same (n ∷ removed) h =
      let here = are.each n (All-head (λ n. n < count) n removed h) in
      let rest = left_same removed (All-tail (λ n. n < count) n removed h) in
      λ i. if not (here i) then n ∷ rest i else rest i

  -- an edit without the removal of flagged tokens
  pub without_same : (e : Edit) → All (λ n. n < count) e.removed → without_flagged flags e ≡ without stays e
  without_same e h = ap (λ (l : List ℕ). record e { removed = l }) (left_same e.removed h)
