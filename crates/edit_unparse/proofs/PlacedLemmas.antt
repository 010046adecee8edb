-- The inserts that acts have, by the places at which they stand.
use Rattle.std.proofs.Common.{◌≡◌, ◌≤◌, ◌+◌, ◌*◌, ◌==◌, ◌&&◌, ℕ, zero, suc, Bool, true, false, refl, sym, ap, ◌∙◌, arith, cond, max}
use Rattle.std.proofs.Common.{List, [], ◌∷◌, ◌++◌, append_assoc, get_or, filter, fold}
use Rattle.std.specs.Prelude.{if◌then◌else◌}
use Rattle.std.specs.List.{All}
use Rattle.std.proofs.lemmas.Bool.Decides.{Decides-eqb, same_from_decides}
use Rattle.std.proofs.lemmas.List.{append-nil}
use Rattle.std.proofs.lemmas.List.Elements.{All-nil, All-cons, All-tail, All-append, All-filter, filter-append}
use Rattle.edit_marks.specs.declared.edit_conflict.edit.Side.{Side}
use Rattle.edit_marks.specs.declared.edit_conflict.edit.Side.TheVariants.{Before, After}
use Rattle.edit_marks.specs.declared.edit_conflict.edit.Insert.{Insert as Added}
use Rattle.edit_marks.specs.declared.edit_conflict.edit.Edit.{Edit}
use Rattle.edit_marks.specs.declared.edit_conflict.mark.Act.{Act}
use Rattle.edit_marks.specs.declared.edit_conflict.mark.Act.TheVariants.{Remove, Insert}
use Rattle.edit_marks.specs.declared.edit_conflict.mark.Mark.{Mark}
use Rattle.edit_marks.specs.EditConflict.Same.{side_number}
use Rattle.edit_marks.specs.EditConflict.Marks.{is_at, removal_marks, insert_marks, marks_of, marks_from}
use Rattle.edit_unparse.specs.declared.tidy.plan.Spot.{Spot}
use Rattle.edit_unparse.specs.declared.tidy.plan.Placed.{Placed}
use Rattle.edit_unparse.specs.Tidy.Places.{inserts_at, inserts_from, inserts_in}
use Rattle.edit_unparse.specs.Tidy.Found.{placed_act, placed_marks, token_inserts}
use Rattle.edit_unparse.specs.Tidy.Spots.{deepest_from, is_number, placed_number, spot, spot_number}
use Rattle.edit_unparse.proofs.DepthLemmas.{at_depth, depth_most}

module _ (depths : List ℕ) (side : Side) (at : Spot) where
  abbrev pub placed_here : ℕ → ℕ → Placed
  placed_here edit number = record { spot = at; edit = edit; insert = number; depth = get_or depths edit 0 }

  placed_marks-append : (xs ys : List Mark) → placed_marks depths side at (xs ++ ys) ≡ placed_marks depths side at xs ++ placed_marks depths side at ys
  placed_marks-append [] ys = refl
  placed_marks-append (m ∷ xs) ys =
      ap (λ (l : List Placed). placed_act depths side at m.edit m.act ++ l) (placed_marks-append xs ys)
      ∙ sym (append_assoc (placed_act depths side at m.edit m.act) (placed_marks depths side at xs) (placed_marks depths side at ys))

  -- what holds of the inserts of acts
  acts_all : (P : Placed → Type 0) (edit : ℕ) (a : Act)
      → ((number : ℕ) → P (placed_here edit number)) → All P (placed_act depths side at edit a)
  acts_all P edit Remove holds = All-nil P
  acts_all P edit (Insert s many number) holds = elim (side_number s == side_number side) as (λ b. All P
      (if b then (placed_here edit number) ∷ [] else [])) [
        | true ↦ All-cons P (placed_here edit number) [] (holds number) (All-nil P)
        | false ↦ All-nil P
      ]

  marks_all : (P : Placed → Type 0) (ms : List Mark)
      → ((edit number : ℕ) → P (placed_here edit number)) → All P (placed_marks depths side at ms)
  marks_all P [] holds = All-nil P
  marks_all P (m ∷ ms) holds = All-append P (placed_act depths side at m.edit m.act) (placed_marks depths side at ms)
      (acts_all P m.edit m.act (holds m.edit)) (marks_all P ms holds)

  pub marks_there : (ms : List Mark) → All (λ p. placed_number p ≡ spot_number at) (placed_marks depths side at ms)
  marks_there ms = marks_all (λ p. placed_number p ≡ spot_number at) ms (λ edit number. refl)

  pub marks_depth : (ms : List Mark) → All (λ p. p.depth ≤ fold max 0 depths) (placed_marks depths side at ms)
  marks_depth ms = marks_all (λ p. p.depth ≤ fold max 0 depths) ms (λ edit number. depth_most depths edit)

same_test : (a b k : ℕ) → a ≡ b → (a == k) ≡ (b == k)
same_test a b k e = ap (λ (x : ℕ). x == k) e

none_either : (b : Bool) → let none : List Placed = [] in (if b then none else none) ≡ none
none_either true = refl
none_either false = refl

-- elements of one key
filter_same : (n : Placed → ℕ) (m k : ℕ) (ps : List Placed) → All (λ p. n p ≡ m) ps → filter (λ p. n p == k) ps ≡ (if m == k then ps else [])
filter_same n m k [] all = sym (none_either (m == k))
filter_same n m k (p ∷ ps) all =
    let rest = filter_same n m k ps (All-tail (λ q. n q ≡ m) p ps all) in
    (λ i. cond (same_test (n p) m k (all 0 p (omega arith)) i) (p ∷ rest i) (rest i))
    ∙ elim (m == k) as (λ b. cond b (p ∷ (if b then ps else [])) (if b then ps else []) ≡ (if b then p ∷ ps else [])) [ true ↦ refl | false ↦ refl ]

deepest_all : (P : Placed → Type 0) (m : ℕ) (ps : List Placed) → All P ps → All P (deepest_from m ps)
deepest_all P zero ps all = All-filter (at_depth zero) P ps all
deepest_all P (suc m) ps all = All-append P (filter (at_depth (suc m)) ps) (deepest_from m ps) (All-filter (at_depth (suc m)) P ps all) (deepest_all P m ps all)

-- the acts of edits at a token, as their inserts

module _ (depths : List ℕ) (side : Side) (t : ℕ) (at : Spot) where
  abbrev found : List Mark → List Placed
  found ms = placed_marks depths side at (filter (is_at t) ms)

  found-append : (xs ys : List Mark) → found (xs ++ ys) ≡ found xs ++ found ys
  found-append xs ys = ap (placed_marks depths side at) (filter-append (is_at t) xs ys)
      ∙ placed_marks-append depths side at (filter (is_at t) xs) (filter (is_at t) ys)

  removals_none : (n : ℕ) (ts : List ℕ) → found (removal_marks n ts) ≡ []
  removals_none n [] = refl
  removals_none n (u ∷ ts) = elim (u == t) as (λ b. placed_marks depths side at
      (cond b (record { token = u; edit = n; act = Remove } ∷ filter (is_at t) (removal_marks n ts)) (filter (is_at t) (removal_marks n ts))) ≡ []) [
        | true ↦ removals_none n ts
        | false ↦ removals_none n ts
      ]

  inserts_found : (n k : ℕ) (is : List Added) → found (insert_marks n k is) ≡ inserts_in depths side t at n k is
  inserts_found n k [] = refl
  inserts_found n k (i ∷ is) =
      let rest = inserts_found n (k + 1) is in
      let own : Placed = record { spot = at; edit = n; insert = k; depth = get_or depths n 0 } in
      let mark : Mark = record { token = i.token; edit = n; act = Insert i.side i.many k } in
      elim (i.token == t) as (λ b. placed_marks depths side at
      (cond b (mark ∷ filter (is_at t) (insert_marks n (k + 1) is)) (filter (is_at t) (insert_marks n (k + 1) is)))
      ≡ (if b && side_number i.side == side_number side then own ∷ inserts_in depths side t at n (k + 1) is else inserts_in depths side t at n (k + 1) is)) [
        | false ↦ rest
        | true ↦ elim (side_number i.side == side_number side) as (λ b. (if b then own ∷ [] else []) ++ found (insert_marks n (k + 1) is)
            ≡ (if b then own ∷ inserts_in depths side t at n (k + 1) is else inserts_in depths side t at n (k + 1) is)) [
              | false ↦ rest
              | true ↦ ap (λ (l : List Placed). own ∷ l) rest
            ]
      ]

  pub found_from : (n : ℕ) (es : List Edit) → found (marks_from n es) ≡ inserts_from depths side t at n es
  found_from n [] = refl
  found_from n (e ∷ es) =
      let own = found-append (removal_marks n e.removed) (insert_marks n 0 e.inserts)
      ∙ (λ j. removals_none n e.removed j ++ inserts_found n 0 e.inserts j) in
      found-append (marks_of n e) (marks_from (n + 1) es) ∙ (λ j. own j ++ found_from (n + 1) es j)

-- what a token's inserts are at each place

test_false : (x y : ℕ) → (x ≡ y → ⊥) → (x == y) ≡ false
test_false x y differ = by (x == y) refl
  where
    by : (b : Bool) → (x == y) ≡ b → b ≡ false
    by true e = absurd (differ ((Decides-eqb x y).0 e))
    by false e = refl

same_tests : (x y a b : ℕ) → (x ≡ y → a ≡ b) → (a ≡ b → x ≡ y) → (x == y) ≡ (a == b)
same_tests x y a b to from = same_from_decides (x == y) (a == b) (Decides-eqb x y) (λ e. from ((Decides-eqb a b).0 e), λ p. (Decides-eqb a b).1 (to p))

double_same : (a b : ℕ) → (2 * a == 2 * b) ≡ (a == b)
double_same a b = same_tests (2 * a) (2 * b) a b (λ e. omega arith) (λ e. omega arith)

double_other : (a b : ℕ) → (2 * a == 2 * b + 1) ≡ false
double_other a b = test_false (2 * a) (2 * b + 1) (λ e. omega arith)

other_double : (a b : ℕ) → (2 * a + 1 == 2 * b) ≡ false
other_double a b = test_false (2 * a + 1) (2 * b) (λ e. omega arith)

after_same : (a b : ℕ) → (2 * a + 1 == 2 * b + 1) ≡ (a == b)
after_same a b = same_tests (2 * a + 1) (2 * b + 1) a b (λ e. omega arith) (λ e. omega arith)

module _ (edits : List Edit) (depths : List ℕ) (t : ℕ) where
  abbrev here : List Mark
  here = filter (is_at t) (marks_from 0 edits)

  -- inserts of one place
  of_place : (m k : ℕ) (b : Bool) (ps wanted : List Placed) → All (λ p. placed_number p ≡ m) ps → (m == k) ≡ b → ps ≡ wanted
      → filter (is_number k) ps ≡ (if b then wanted else [])
  of_place m k b ps wanted all is same =
      filter_same placed_number m k ps all ∙ (λ i. if is i then same i else [])

  side_at : (side : Side) (at : Spot) (k : ℕ) (b : Bool) → (spot_number at == k) ≡ b
      → filter (is_number k) (placed_marks depths side at here) ≡ (if b then inserts_from depths side t at 0 edits else [])
  side_at side at k b is = of_place (spot_number at) k b (placed_marks depths side at here) (inserts_from depths side t at 0 edits)
      (marks_there depths side at here) is (found_from depths side t at 0 edits)

  abbrev deepest : Spot → List Placed
  deepest at = deepest_from (fold max 0 depths) (inserts_from depths After t at 0 edits)

  deepest_at : (at : Spot) (k : ℕ) (b : Bool) → (spot_number at == k) ≡ b
      → filter (is_number k) (deepest_from (fold max 0 depths) (placed_marks depths After at here)) ≡ (if b then deepest at else [])
  deepest_at at k b is = of_place (spot_number at) k b (deepest_from (fold max 0 depths) (placed_marks depths After at here)) (deepest at)
      (deepest_all (λ p. placed_number p ≡ spot_number at) (fold max 0 depths) (placed_marks depths After at here) (marks_there depths After at here)) is
      (ap (deepest_from (fold max 0 depths)) (found_from depths After t at 0 edits))

  both : (b : Bool) (xs ys : List Placed) → (if b then xs else []) ++ (if b then ys else []) ≡ (if b then xs ++ ys else [])
  both true xs ys = refl
  both false xs ys = refl

  -- of a token that goes
  pub gone_before : (home n : ℕ) → filter (is_number (2 * n)) (token_inserts depths true home here)
      ≡ (if home == n then inserts_at edits depths (spot home false) t else [])
  gone_before home n =
      let is = double_same home n in
      let at = spot home false in
      filter-append (is_number (2 * n)) (placed_marks depths Before at here) (placed_marks depths After at here)
      ∙ (λ j. side_at Before at (2 * n) (home == n) is j ++ side_at After at (2 * n) (home == n) is j)
      ∙ both (home == n) (inserts_from depths Before t at 0 edits) (inserts_from depths After t at 0 edits)

  pub gone_after : (home n : ℕ) → filter (is_number (2 * n + 1)) (token_inserts depths true home here) ≡ []
  gone_after home n =
      let is = double_other home n in
      let at = spot home false in
      filter-append (is_number (2 * n + 1)) (placed_marks depths Before at here) (placed_marks depths After at here)
      ∙ (λ j. side_at Before at (2 * n + 1) false is j ++ side_at After at (2 * n + 1) false is j)

  -- of a token that stays
  pub kept_before : (home n : ℕ) → filter (is_number (2 * n)) (token_inserts depths false home here)
      ≡ (if home == n then inserts_from depths Before t (spot home false) 0 edits else [])
  kept_before home n =
      filter-append (is_number (2 * n)) (placed_marks depths Before (spot home false) here)
      (deepest_from (fold max 0 depths) (placed_marks depths After (spot home true) here))
      ∙ (λ j. side_at Before (spot home false) (2 * n) (home == n) (double_same home n) j ++ deepest_at (spot home true) (2 * n) false (other_double home n) j)
      ∙ append-nil (if home == n then inserts_from depths Before t (spot home false) 0 edits else [])

  pub kept_after : (home n : ℕ) → filter (is_number (2 * n + 1)) (token_inserts depths false home here)
      ≡ (if home == n then deepest (spot home true) else [])
  kept_after home n =
      filter-append (is_number (2 * n + 1)) (placed_marks depths Before (spot home false) here)
      (deepest_from (fold max 0 depths) (placed_marks depths After (spot home true) here))
      ∙ (λ j. side_at Before (spot home false) (2 * n + 1) false (double_other home n) j
      ++ deepest_at (spot home true) (2 * n + 1) (home == n) (after_same home n) j)
