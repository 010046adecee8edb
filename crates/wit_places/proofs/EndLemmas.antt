-- Where spans begin and end.
use Rattle.std.proofs.Common.{◌≡◌, ◌∙◌, ◌<◌, ◌≤◌, ◌+◌, ℕ, true, false, Bool, cond, List, [], ◌∷◌, ◌++◌, take, drop, length, get_or}
use Rattle.std.proofs.Common.{Option, Some, None, slice_get, refl, sym, ap, subst, arith, ltb-true}
use Rattle.std.specs.Prelude.{nat_lt, option_map, option_and_then}
use Rattle.std.specs.List.{All, filter_map, cons_option, last_or}
use Rattle.std.specs.List.Sorted.{IsNonDecreasing}
use Rattle.std.proofs.lemmas.Option.{slice_get-map, slice_get_within, get_or_from_slice_get}
use Rattle.std.proofs.lemmas.List.{take-append-drop, drop_at, take_at}
use Rattle.std.proofs.lemmas.List.Elements.{All-nil, All-cons, All-head, All-tail}
use Rattle.std.proofs.lemmas.List.Sorted.{IsNonDecreasingBy-take, IsNonDecreasingBy-drop}
use Rattle.c_terms.specs.declared.token.Token.{Token}
use Rattle.c_terms.specs.declared.label.Label.{Label}
use Rattle.c_terms.specs.declared.tree.Tree.{Tree}
use Rattle.c_terms.specs.declared.tree.Tree.TheVariants.{Branch}
use Rattle.c_terms.specs.Trees.{leaves}
use Rattle.c_terms.specs.Places.{child, subtree}
use Rattle.c_terms.proofs.Induct.{tree_cases}
use Rattle.c_terms.proofs.PlaceLemmas.{child-Leaf, child-Branch}
use Rattle.smpl_patch.specs.declared.witness.Witness.{Witness}
use Rattle.wit_places.specs.declared.spans.TokenSpan.{TokenSpan}
use Rattle.wit_places.specs.Touches.{touch_paths}
use Rattle.wit_places.specs.Spans.{between, span_of, loaded_id, loaded_ids, span_at, touch_spans}
use Rattle.wit_places.proofs.RowLemmas.{row_ids, ids-Branch, row_ids-append, ids_from}

-- ---- the ends of some numbers

last_in : (P : ℕ → Type 0) (x : ℕ) (xs : List ℕ) (id : ℕ) → P x → All P xs → last_or (Some x) xs ≡ Some id → P id
last_in P x [] id here all e = let same : x ≡ id = cc in subst P same here
last_in P x (y ∷ ys) id here all e = last_in P y ys id (All-head P y ys all) (All-tail P y ys all) e

-- what holds of all numbers holds of both ends
ends_in : (P : ℕ → Type 0) (ids : List ℕ) (s : TokenSpan) → All P ids → span_of ids ≡ Some s → P s.first × P s.last
ends_in P [] s all e = absurd cc
ends_in P (x ∷ xs) s all e = by (last_or (Some x) xs) refl e
  where
    by : (o : Option ℕ) → last_or (Some x) xs ≡ o → between (Some x) o ≡ Some s → P s.first × P s.last
    by None is e = absurd cc
    by (Some y) is e =
        let first : x ≡ s.first = cc in
        let last : y ≡ s.last = cc in
        (subst P first (All-head P x xs all), subst P last (last_in P x xs y (All-head P x xs all) (All-tail P x xs all) is))

first_is : (x : ℕ) (xs : List ℕ) (s : TokenSpan) → span_of (x ∷ xs) ≡ Some s → s.first ≡ x
first_is x xs s e = by (last_or (Some x) xs) e
  where
    by : (o : Option ℕ) → between (Some x) o ≡ Some s → s.first ≡ x
    by None e = absurd cc
    by (Some y) e = cc

ends_rise : (ids : List ℕ) (s : TokenSpan) → IsNonDecreasing ids → span_of ids ≡ Some s → s.first ≤ s.last
ends_rise [] s rise e = absurd cc
ends_rise (x ∷ xs) s rise e =
    let least : All (λ y. x ≤ y) (x ∷ xs) = λ k d lt. rise 0 k d (omega arith) lt in
    let after : x ≤ s.last = (ends_in (λ y. x ≤ y) (x ∷ xs) s least e).1 in
    let begin : s.first ≡ x = first_is x xs s e in
    omega (arith, after, begin)

middle_rises : (xs ys zs : List ℕ) → IsNonDecreasing (xs ++ (ys ++ zs)) → IsNonDecreasing ys
middle_rises xs ys zs rise =
    let later : IsNonDecreasing (ys ++ zs) =
    subst IsNonDecreasing (drop_at xs (ys ++ zs) (length xs) refl)
    (IsNonDecreasingBy-drop (λ x. x) (length xs) (xs ++ (ys ++ zs)) rise) in
    subst IsNonDecreasing (take_at ys zs (length ys) refl) (IsNonDecreasingBy-take (λ x. x) (length ys) (ys ++ zs) later)

-- ---- the part that a path leads to

module _ (loaded : ℕ) where
  below : (ts : List Token) → All (λ id. id < loaded) (filter_map (loaded_id loaded) ts)
  below [] = All-nil (λ id. id < loaded)
  below (a ∷ ts) = by (nat_lt a.id loaded) refl (below ts)
    where
      by : (b : Bool) → nat_lt a.id loaded ≡ b → All (λ id. id < loaded) (filter_map (loaded_id loaded) ts)
          → All (λ id. id < loaded) (cons_option (cond b (Some a.id) None) (filter_map (loaded_id loaded) ts))
      by true is more = All-cons (λ id. id < loaded) a.id (filter_map (loaded_id loaded) ts) (ltb-true a.id loaded is) more
      by false is more = more

  abbrev ChildRises : Tree → Type 0
  ChildRises t = (i : ℕ) (c : Tree) → child t i ≡ Some c → IsNonDecreasing (loaded_ids loaded t) → IsNonDecreasing (loaded_ids loaded c)

  branch_rises : (l : Label) (cs : List Tree) → ChildRises (Branch l cs)
  branch_rises l cs i c is rise =
      let there : slice_get cs i ≡ Some c = sym (child-Branch l cs i) ∙ is in
      let lt : i < length cs = slice_get_within cs i c there in
      let at : c ≡ get_or cs i c = sym (get_or_from_slice_get cs i c c there) in
      let front = row_ids loaded (take i cs) in
      let back = row_ids loaded (drop (i + 1) cs) in
      let row : row_ids loaded cs ≡ front ++ (loaded_ids loaded c ++ back) =
      ap (row_ids loaded) (sym (take-append-drop i cs)) ∙ row_ids-append loaded (take i cs) (drop i cs)
      ∙ ap (λ ids. front ++ ids) (ids_from loaded cs i c lt at) in
      middle_rises front (loaded_ids loaded c) back (subst IsNonDecreasing (ids-Branch loaded l cs ∙ row) rise)

  child_rises : (t : Tree) → ChildRises t
  child_rises = tree_cases ChildRises (λ a i c is rise. let none = child-Leaf a i in absurd cc) branch_rises

  part_rises : (path : List ℕ) (t part : Tree) → subtree t path ≡ Some part → IsNonDecreasing (loaded_ids loaded t)
      → IsNonDecreasing (loaded_ids loaded part)
  part_rises [] t part is rise = let same : t ≡ part = cc in subst (λ u. IsNonDecreasing (loaded_ids loaded u)) same rise
  part_rises (i ∷ path) t part is rise = by (child t i) refl is (λ c. part_rises path c part)
    where
      by : (o : Option Tree) → child t i ≡ o → option_and_then (λ c. subtree c path) o ≡ Some part
          → ((c : Tree) → subtree c path ≡ Some part → IsNonDecreasing (loaded_ids loaded c) → IsNonDecreasing (loaded_ids loaded part))
          → IsNonDecreasing (loaded_ids loaded part)
      by None there is deeper = absurd cc
      by (Some c) there is deeper = deeper c is (child_rises t i c there rise)

  -- ---- the span of a touch

  module _ (t : Tree) (s : TokenSpan) where
    -- it is that of a part
    record IsOfPart : Type 0 where
      path : List ℕ
      part : Tree
      there : subtree t path ≡ Some part
      span : span_of (loaded_ids loaded part) ≡ Some s

    at_path : (path : List ℕ) → span_at loaded t path ≡ Some s → IsOfPart
    at_path path is = by (subtree t path) refl is
      where
        by : (o : Option Tree) → subtree t path ≡ o → option_and_then (λ part. span_of (loaded_ids loaded part)) o ≡ Some s → IsOfPart
        by None there is = absurd cc
        by (Some part) there is = record { path = path; part = part; there = there; span = is }

    of_part : (forest : List Witness) (k : ℕ) → slice_get (touch_spans loaded t forest) k ≡ Some (Some s) → IsOfPart
    of_part forest k is =
        by (slice_get (touch_paths forest) k) (sym (slice_get-map (span_at loaded t) (touch_paths forest) k) ∙ is)
      where
        by : (o : Option (List ℕ)) → option_map (span_at loaded t) o ≡ Some (Some s) → IsOfPart
        by None e = absurd cc
        by (Some path) e = at_path path cc

pub ends_loaded : (loaded : ℕ) (t : Tree) (forest : List Witness) (k : ℕ) (s : TokenSpan)
    → slice_get (touch_spans loaded t forest) k ≡ Some (Some s) → (s.first < loaded) × (s.last < loaded)
ends_loaded loaded t forest k s is =
    let found : IsOfPart loaded t s = of_part loaded t s forest k is in
    ends_in (λ id. id < loaded) (loaded_ids loaded found.part) s (below loaded (leaves found.part)) found.span

pub goes_forward : (loaded : ℕ) (t : Tree) (forest : List Witness) (k : ℕ) (s : TokenSpan) → IsNonDecreasing (loaded_ids loaded t)
    → slice_get (touch_spans loaded t forest) k ≡ Some (Some s) → s.first ≤ s.last
goes_forward loaded t forest k s rise is =
    let found : IsOfPart loaded t s = of_part loaded t s forest k is in
    ends_rise (loaded_ids loaded found.part) s (part_rises loaded found.path t found.part found.there rise) found.span
