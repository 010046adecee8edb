-- Binary search in values in order.
use Rattle.std.proofs.lemmas.Bool.Decides.{nat_tests}
use Rattle.std.proofs.Common.{◌≡◌, ℕ, suc, zero, ◌+◌, ◌-◌, ◌<◌, ◌≤◌, ◌==◌, Bool, true, false, ◌||◌, ◌&&◌, not, refl, sym, ap}
use Rattle.std.proofs.Common.{◌∙◌, subst, arith, List, [], ◌∷◌, ◌++◌, length, get_or, take, drop, take-append-drop}
use Rattle.std.specs.List.{list_any, list_all}
use Rattle.std.specs.declared.cmp.Ordering.{Ordering}
use Rattle.std.specs.declared.cmp.Ordering.TheVariants.{Less, Equal, Greater}
use Rattle.std.specs.Ordering.{ordering_reverse, is_lt, is_eq}
use Rattle.std.proofs.lemmas.List.Folds.{list_any-append}
use Rattle.std.proofs.lemmas.List.{take_all, take_rest, get_or_default}
use Rattle.smpl_terms.specs.declared.value.Value.{Value}
use Rattle.smpl_terms.specs.Values.{same, value_order}
use Rattle.smpl_terms.proofs.ValueLaws.{value_order_total, is_eq-value_order}
use Rattle.env_sets.specs.Rising.{BeforeFirst, Rise, NoneAbove}
use Rattle.env_sets.proofs.LoopLemmas.{all_at}

pub less_apart : (v w : Value) → value_order v w ≡ Less → same v w ≡ false
less_apart v w h = sym (is_eq-value_order v w) ∙ ap is_eq h

more_apart : (v w : Value) → value_order v w ≡ Greater → same v w ≡ false
more_apart v w h = sym (is_eq-value_order v w) ∙ ap is_eq h

pub turned : (v w : Value) (o : Ordering) → value_order v w ≡ o → value_order w v ≡ ordering_reverse o
turned v w o h = value_order_total.antisymm w v ∙ ap ordering_reverse h

-- in a list in order, all values before one that is before v are before v
front_step : (b : Bool) (c : Bool) → b ≡ false → c ≡ false → (b || c) ≡ false
front_step b c h k = ap (λ x. x || c) h ∙ k

pub all_less : (w x v : Value) (ws : List Value) (n : ℕ) → BeforeFirst w ws → Rise ws → n < length ws → x ≡ get_or ws n x → value_order w x ≡ Less
all_less w x v [] n b r lt e = absurd (omega arith)
all_less w x v (y ∷ ws) zero b r lt e = ap (value_order w) e ∙ b
all_less w x v (y ∷ ws) (suc n) b r lt e = value_order_total.trans w y x b (all_less y x v ws n r.0 r.1 (omega arith) e)

pub front_misses : (ws : List Value) (n : ℕ) (x v : Value) → Rise ws → n < length ws → x ≡ get_or ws n x
    → value_order x v ≡ Less → list_any (λ w. same w v) (take (suc n) ws) ≡ false
front_misses [] n x v r lt e h = absurd (omega arith)
front_misses (w ∷ ws) zero x v r lt e h = front_step (same w v) false (ap (λ y. same y v) (sym e) ∙ less_apart x v h) refl
front_misses (w ∷ ws) (suc n) x v r lt e h =
    front_step (same w v) (list_any (λ y. same y v) (take (suc n) ws))
    (less_apart w v (value_order_total.trans w x v (all_less w x v ws n r.0 r.1 (omega arith) e) h))
    (front_misses ws n x v r.1 (omega arith) e h)

-- all values after one that is after v are after v
after_all : (ws : List Value) (w v : Value) → BeforeFirst w ws → Rise ws → value_order v w ≡ Less → list_any (λ y. same y v) ws ≡ false
after_all [] w v b r h = refl
after_all (y ∷ ws) w v b r h =
    let less : value_order v y ≡ Less = value_order_total.trans v w y h b in
    front_step (same y v) (list_any (λ y. same y v) ws) (more_apart y v (turned v y Less less)) (after_all ws y v r.0 r.1 less)

pub back_misses : (ws : List Value) (n : ℕ) (x v : Value) → Rise ws → n < length ws → x ≡ get_or ws n x
    → value_order x v ≡ Greater → list_any (λ w. same w v) (drop n ws) ≡ false
back_misses [] n x v r lt e h = absurd (omega arith)
back_misses (w ∷ ws) zero x v r lt e h =
    let here : value_order w v ≡ Greater = ap (λ y. value_order y v) (sym e) ∙ h in
    front_step (same w v) (list_any (λ y. same y v) ws) (more_apart w v here) (after_all ws w v r.0 r.1 (turned w v Greater here))
back_misses (w ∷ ws) (suc n) x v r lt e h = back_misses ws n x v r.1 (omega arith) e h

-- what neither part has, the list does not have
pub parts_miss : (ws : List Value) (n : ℕ) (v : Value) → list_any (λ w. same w v) (take n ws) ≡ false
    → list_any (λ w. same w v) (drop n ws) ≡ false → false ≡ list_any (λ w. same w v) ws
parts_miss ws n v front back =
    sym (ap (list_any (λ w. same w v)) (sym (take-append-drop n ws)) ∙ list_any-append (λ w. same w v) (take n ws) (drop n ws) ∙ front_step _ _ front back)

-- a value at its place
pub here_at : (x v : Value) (ws : List Value) (n : ℕ) → n < length ws → x ≡ get_or ws n x → value_order x v ≡ Equal → same (get_or ws n v) v ≡ true
here_at x v ws n lt e h = ap (λ y. same y v) (get_or_default ws n v x lt ∙ sym e) ∙ sym (is_eq-value_order x v) ∙ ap is_eq h

-- one more value in order
before : (o : Ordering) → is_lt o ≡ true → o ≡ Less
before Less h = refl
before Equal h = absurd cc
before Greater h = absurd cc

pub Rise-more : (ws : List Value) (n : ℕ) (x y : Value) → suc n < length ws → x ≡ get_or ws n x → y ≡ get_or ws (suc n) y
    → is_lt (value_order x y) ≡ true → Rise (take (suc n) ws) → Rise (take (suc (suc n)) ws)
Rise-more [] n x y lt e f h r = absurd (omega arith)
Rise-more (w ∷ []) n x y lt e f h r = absurd (omega arith)
Rise-more (w ∷ z ∷ ws) zero x y lt e f h r =
    (ap (λ a. value_order a z) (sym e) ∙ ap (value_order x) (sym f) ∙ before (value_order x y) h, (tt, tt))
Rise-more (w ∷ z ∷ ws) (suc n) x y lt e f h r = (r.0, Rise-more (z ∷ ws) n x y (omega arith) e f h r.1)

pub Rise-more_at : (ws : List Value) (n i : ℕ) (x y : Value) → i ≡ suc n → i < length ws → x ≡ get_or ws n x → y ≡ get_or ws i y
    → is_lt (value_order x y) ≡ true → Rise (take i ws) → Rise (take (i + 1) ws)
Rise-more_at ws n i x y e lt f g h r =
    let next : suc (suc n) ≡ i + 1 = omega arith in
    subst (λ k. Rise (take k ws)) next
    (Rise-more ws n x y (omega arith) f (g ∙ ap (λ k. get_or ws k y) e) h (subst (λ k. Rise (take k ws)) e r))

pub front_misses_at : (ws : List Value) (n m : ℕ) (x v : Value) → Rise ws → n < length ws → x ≡ get_or ws n x
    → value_order x v ≡ Less → m ≡ suc n → list_any (λ w. same w v) (take m ws) ≡ false
front_misses_at ws n m x v r lt e h k = ap (λ j. list_any (λ w. same w v) (take j ws)) k ∙ front_misses ws n x v r lt e h

four : (p q r s : Bool) → (((p || q) || r) || s) ≡ ((p || r) || (q || s))
four true q r s = refl
four false true true s = refl
four false true false s = refl
four false false r s = refl

-- the rest of a list, as a loop over it has read it
rest_read : (ws : List Value) (j n : ℕ) → length (take (length ws - j) (drop j ws)) ≤ n → take n (take (length ws - j) (drop j ws)) ≡ drop j ws
rest_read ws j n h = take_all n (take (length ws - j) (drop j ws)) h ∙ take_rest ws j

-- two lists, each in two parts
pub merged_all : (vs ws : List Value) (i j m n : ℕ) (a b d : Bool) (z : Value)
    → d ≡ (b || list_any (λ v. same v z) (take n (take (length ws - j) (drop j ws)))) → length (take (length ws - j) (drop j ws)) ≤ n
    → b ≡ (a || list_any (λ v. same v z) (take m (take (length vs - i) (drop i vs)))) → length (take (length vs - i) (drop i vs)) ≤ m
    → a ≡ (list_any (λ v. same v z) (take i vs) || list_any (λ v. same v z) (take j ws))
    → d ≡ (list_any (λ v. same v z) vs || list_any (λ v. same v z) ws)
merged_all vs ws i j m n a b d z last all_last middle all_middle first =
    let is = λ (v : Value). same v z in
    let split = λ (xs : List Value) (k : ℕ). sym (list_any-append is (take k xs) (drop k xs)) ∙ ap (list_any is) (take-append-drop k xs) in
    last
    ∙ (λ k. (middle ∙ (λ l. first l || list_any is (rest_read vs i m all_middle l))) k || list_any is (rest_read ws j n all_last k))
    ∙ four (list_any is (take i vs)) (list_any is (take j ws)) (list_any is (drop i vs)) (list_any is (drop j ws))
    ∙ (λ k. split vs i k || split ws j k)

-- a list that ends in order
pub Rise-push : (ws : List Value) (x v : Value) (n : ℕ) → Rise ws → n + 1 ≡ length ws → x ≡ get_or ws n x → value_order x v ≡ Less → Rise (ws ++ v ∷ [])
Rise-push [] x v n r e at h = absurd (omega (arith, e))
Rise-push (w ∷ []) x v n r e at h =
    let first : n ≡ 0 = omega (arith, e) in
    let here : x ≡ w = at ∙ ap (λ k. get_or (w ∷ []) k x) first in
    (ap (λ y. value_order y v) (sym here) ∙ h, (tt, tt))
Rise-push (w ∷ y ∷ ws) x v zero r e at h = absurd (omega (arith, e))
Rise-push (w ∷ y ∷ ws) x v (suc n) r e at h = (r.0, Rise-push (y ∷ ws) x v n r.1 (omega (arith, e)) at h)

neither : (o : Ordering) → is_eq o ≡ false → is_lt (ordering_reverse o) ≡ false → o ≡ Less
neither Less h k = refl
neither Equal h k = absurd cc
neither Greater h k = absurd cc

-- if two values in sorted order are not the same, the first is before the second
pub before_sorted : (x v : Value) → same x v ≡ false → is_lt (value_order v x) ≡ false → value_order x v ≡ Less
before_sorted x v h k = neither (value_order x v) (is_eq-value_order x v ∙ h) (ap is_lt (sym (value_order_total.antisymm v x)) ∙ k)

pub both_hold : {a b : Bool} → a ≡ true → b ≡ true → (a && b) ≡ true
both_hold {a} {b} h k = ap (λ c. c && b) h ∙ k

-- no value before place n is after the one there
pub none_above : (xs : List Value) (n : ℕ) (v : Value) → ((i : ℕ) → i < n → is_lt (value_order v (get_or xs i v)) ≡ false)
    → n ≤ length xs → list_all (λ u. not (is_lt (value_order v u))) (take n xs) ≡ true
none_above xs zero v h lt = refl
none_above [] (suc n) v h lt = absurd (omega arith)
none_above (x ∷ xs) (suc n) v h lt = both_hold (ap not (h 0 (omega arith))) (none_above xs n v (λ i k. h (suc i) (omega arith)) (omega arith))

-- values of two places of a list in order
pub rise_apart : (ws : List Value) (j k : ℕ) (x y : Value) → Rise ws → j < k → k < length ws → x ≡ get_or ws j x → y ≡ get_or ws k y → value_order x y ≡ Less
rise_apart [] j k x y r lt within e f = absurd (omega arith)
rise_apart (w ∷ ws) j zero x y r lt within e f = absurd (omega arith)
rise_apart (w ∷ ws) zero (suc k) x y r lt within e f = ap (λ a. value_order a y) e ∙ all_less w y y ws k r.0 r.1 (omega arith) f
rise_apart (w ∷ ws) (suc j) (suc k) x y r lt within e f = rise_apart ws j k x y r.1 (omega arith) (omega arith) e f

-- a value read from its place
pub read_again : (ws : List Value) (k : ℕ) (v : Value) → k < length ws → get_or ws k v ≡ get_or ws k (get_or ws k v)
read_again ws k v lt = get_or_default ws k v (get_or ws k v) lt

not_true : (b : Bool) → not b ≡ true → b ≡ false
not_true true h = absurd cc
not_true false h = refl

pub empty_push : (ws : List Value) (v : Value) → length ws ≡ 0 → Rise (ws ++ v ∷ [])
empty_push [] v e = (tt, tt)
empty_push (w ∷ ws) v e = absurd (omega arith)

pub below : (ws : List Value) (n : ℕ) (x v : Value) → NoneAbove v ws → n < length ws → x ≡ get_or ws n x → is_lt (value_order v x) ≡ false
below ws n x v h lt e = not_true (is_lt (value_order v x)) (all_at (λ u. not (is_lt (value_order v u))) ws n x lt e h)

pub no_items : (n : ℕ) → true ≡ (n == 0) → n ≡ 0
no_items n h = grind (arith, nat_tests)

pub some_items : (n : ℕ) → false ≡ (n == 0) → 0 < n
some_items n h = grind (arith, nat_tests)
