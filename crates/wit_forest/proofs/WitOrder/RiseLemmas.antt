-- Trees in order, each once.
use Rattle.std.proofs.Common.{◌≡◌, ℕ, suc, zero, ◌+◌, ◌<◌, ◌≤◌, ◌==◌, Bool, true, false, ◌||◌, ◌&&◌, not, refl, sym, ap, ◌∙◌}
use Rattle.std.proofs.Common.{arith, List, [], ◌∷◌, ◌++◌, length, get_or, take}
use Rattle.std.proofs.lemmas.Bool.Decides.{nat_tests}
use Rattle.std.proofs.lemmas.Grind.{common_steps}
use Rattle.std.specs.List.{list_any, list_all}
use Rattle.std.specs.declared.cmp.Ordering.{Ordering}
use Rattle.std.specs.declared.cmp.Ordering.TheVariants.{Less, Equal, Greater}
use Rattle.std.specs.Ordering.{ordering_reverse, is_lt, is_eq}
use Rattle.std.proofs.lemmas.List.Folds.{list_any-append, list_all_more}
use Rattle.smpl_patch.specs.declared.pattern.VarDecl.{VarDecl}
use Rattle.smpl_patch.specs.declared.witness.Witness.{Witness}
use Rattle.wit_forest.specs.WitOrder.Same.{same_witness}
use Rattle.wit_forest.specs.WitOrder.Order.{witness_order}
use Rattle.wit_forest.specs.WitOrder.Forests.{has, Rise, NoneAbove}
use Rattle.wit_forest.proofs.WitOrder.OrderLaws.{witness_order_total}
use Rattle.wit_forest.proofs.WitOrder.SameLaws.{witness-along}

pub either_true : (a b : Bool) → a ≡ true → (a || b) ≡ true
either_true a b h = grind (arith, common_steps)

pub or_true : (a b : Bool) → b ≡ true → (a || b) ≡ true
or_true a b h = grind (arith, common_steps)

pub or-false : (a : Bool) → (a || false) ≡ a
or-false true = refl
or-false false = refl

pub both_hold : {a b : Bool} → a ≡ true → b ≡ true → (a && b) ≡ true
both_hold {a} {b} h k = ap (λ c. c && b) h ∙ k

pub both_parts : (a b : Bool) → (a && b) ≡ true → (a ≡ true) × (b ≡ true)
both_parts true b h = (refl, h)
both_parts false b h = absurd cc

not_true : (b : Bool) → not b ≡ true → b ≡ false
not_true true h = absurd cc
not_true false h = refl

-- a test that one member passes is passed by some member
pub any_at : {X : Type 0} (q : X → Bool) (xs : List X) (i : ℕ) (x : X) → i < length xs → x ≡ get_or xs i x → q x ≡ true → list_any q xs ≡ true
any_at q [] i x lt e h = absurd (omega arith)
any_at q (y ∷ ys) zero x lt e h = let k : q y ≡ true = ap q (sym e) ∙ h in either_true (q y) (list_any q ys) k
any_at q (y ∷ ys) (suc i) x lt e h = or_true (q y) (list_any q ys) (any_at q ys i x (omega arith) e h)

pub all_at : {X : Type 0} (q : X → Bool) (xs : List X) (i : ℕ) (x : X) → i < length xs → x ≡ get_or xs i x → list_all q xs ≡ true → q x ≡ true
all_at q [] i x lt e h = absurd (omega arith)
all_at q (y ∷ ys) zero x lt e h = ap q e ∙ (both_parts (q y) (list_all q ys) h).0
all_at q (y ∷ ys) (suc i) x lt e h = all_at q ys i x (omega arith) e (both_parts (q y) (list_all q ys) h).1

pub any_push : {X : Type 0} (q : X → Bool) (xs : List X) (x : X) → list_any q (xs ++ x ∷ []) ≡ (list_any q xs || q x)
any_push q xs x = list_any-append q xs (x ∷ []) ∙ ap (λ b. list_any q xs || b) (or-false (q x))

pub all_step : {X : Type 0} (q : X → Bool) (xs : List X) (x : X) (i : ℕ) → i < length xs → x ≡ get_or xs i x
    → list_all q (take (i + 1) xs) ≡ (list_all q (take i xs) && q x)
all_step q xs x i lt e = list_all_more q xs i x lt ∙ ap (λ y. list_all q (take i xs) && q y) (sym e)

-- a tree that is the same as one in the list adds nothing
pub known_tree : (ws : List Witness) (i : ℕ) (last w z : Witness) → i < length ws → last ≡ get_or ws i last → same_witness last w ≡ true
    → has ws z ≡ (has ws z || same_witness w z)
known_tree ws i last w z lt e h =
    elim (same_witness w z) as (λ b. same_witness w z ≡ b → has ws z ≡ (has ws z || b)) [
      | true ↦ λ k.
          let there : same_witness last z ≡ true = witness-along last w h z ∙ k in
          let all : has ws z ≡ true = any_at (λ u. same_witness u z) ws i last lt e there in
          all ∙ sym (or_true (has ws z) true refl)
      | false ↦ λ k. sym (or-false (has ws z))
    ] refl

pub equal_same : (b : Bool) (o : Ordering) → b ≡ is_eq o → b ≡ true → is_eq o ≡ true
equal_same b o h k = sym h ∙ k

module _ (decls : List VarDecl) where
  pub Rise-push : (ws : List Witness) (x w : Witness) (n : ℕ) → Rise decls ws → n + 1 ≡ length ws → x ≡ get_or ws n x
      → witness_order decls x w ≡ Less → Rise decls (ws ++ w ∷ [])
  Rise-push [] x w n r e at h = absurd (omega (arith, e))
  Rise-push (v ∷ []) x w n r e at h =
      let first : n ≡ 0 = omega (arith, e) in
      let here : x ≡ v = at ∙ ap (λ k. get_or (v ∷ []) k x) first in
      (ap (λ y. witness_order decls y w) (sym here) ∙ h, (tt, tt))
  Rise-push (v ∷ y ∷ ws) x w zero r e at h = absurd (omega (arith, e))
  Rise-push (v ∷ y ∷ ws) x w (suc n) r e at h = (r.0, Rise-push (y ∷ ws) x w n r.1 (omega (arith, e)) at h)

  neither : (o : Ordering) → is_eq o ≡ false → is_lt (ordering_reverse o) ≡ false → o ≡ Less
  neither Less h k = refl
  neither Equal h k = absurd cc
  neither Greater h k = absurd cc

  -- of two trees in sorted order that are not the same, the first is before the second
  pub before_sorted : (x w : Witness) → is_eq (witness_order decls x w) ≡ false → is_lt (witness_order decls w x) ≡ false
      → witness_order decls x w ≡ Less
  before_sorted x w h k = neither (witness_order decls x w) h (ap is_lt (sym ((witness_order_total decls).antisymm w x)) ∙ k)

  -- no tree before place n is after the one there
  pub none_above : (xs : List Witness) (n : ℕ) (w : Witness) → ((i : ℕ) → i < n → is_lt (witness_order decls w (get_or xs i w)) ≡ false)
      → n ≤ length xs → NoneAbove decls w (take n xs)
  none_above xs zero w h lt = refl
  none_above [] (suc n) w h lt = absurd (omega arith)
  none_above (x ∷ xs) (suc n) w h lt = both_hold (ap not (h 0 (omega arith))) (none_above xs n w (λ i k. h (suc i) (omega arith)) (omega arith))

  pub empty_push : (ws : List Witness) (w : Witness) → length ws ≡ 0 → Rise decls (ws ++ w ∷ [])
  empty_push [] w e = (tt, tt)
  empty_push (v ∷ ws) w e = absurd (omega (arith, e))

  pub below : (ws : List Witness) (n : ℕ) (x w : Witness) → NoneAbove decls w ws → n < length ws → x ≡ get_or ws n x
      → is_lt (witness_order decls w x) ≡ false
  below ws n x w h lt e = not_true (is_lt (witness_order decls w x)) (all_at (λ u. not (is_lt (witness_order decls w u))) ws n x lt e h)

pub no_items : (n : ℕ) → true ≡ (n == 0) → n ≡ 0
no_items n h = grind (arith, nat_tests)

pub some_items : (n : ℕ) → false ≡ (n == 0) → 0 < n
some_items n h = grind (arith, nat_tests)
