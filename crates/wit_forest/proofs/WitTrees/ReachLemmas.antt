-- What walks reach, step by step.
use Rattle.std.proofs.Common.{◌≡◌, ℕ, suc, zero, ◌+◌, ◌<◌, ⊎_elim, Bool, true, false, cond, ◌&&◌, ◌||◌, eqb, refl, sym, ap, ◌∙◌, arith, add-one, List, [], ◌∷◌}
use Rattle.std.proofs.lemmas.Bool.{cases_lt}
use Rattle.std.proofs.lemmas.Bool.Decides.{nat_tests}
use Rattle.std.proofs.lemmas.List.Folds.{list_any-append}
use Rattle.std.specs.List.{filter, list_any}
use Rattle.cfg_build.specs.CfgGraph.Flow.{Flow, IsSound, count_of, succ_of}
use Rattle.ctl_fixpoint.specs.CtlHolds.Rounds.{rounds}
use Rattle.ctl_fixpoint.proofs.CtlHolds.TestLemmas.{or_cases, or_left, or_right, and_left, and_right, and_both, same_bool, any_found, any_has}
use Rattle.ctl_fixpoint.proofs.CtlHolds.RoundLemmas.{passes-agree, settled}
use Rattle.wit_forest.specs.WitTrees.Forest.{numbers, is_reached}

pub eqb-same : (m n : ℕ) → eqb m n ≡ true → m ≡ n
eqb-same m n h = grind (arith, nat_tests)

pub eqb-itself : (n : ℕ) → eqb n n ≡ true
eqb-itself n = grind (arith, nat_tests)

-- a number below n that passes
pub any_numbers : (x : ℕ → Bool) (n s : ℕ) → s < n → x s ≡ true → list_any x (numbers n) ≡ true
any_numbers x zero s lt h = absurd (omega (arith, lt))
any_numbers x (suc n) s lt h =
    list_any-append x (numbers n) (n ∷ []) ∙ ⊎_elim
    (λ l. or_left (list_any x (numbers n)) _ (any_numbers x n s l h))
    (λ ge. let last : s ≡ n = omega (arith, lt, ge) in or_right (list_any x (numbers n)) _ (or_left (x n) false (ap x (sym last) ∙ h)))
    (cases_lt s n)

-- some of those that pass a test
pub any-filter : {X : Type 0} (p q : X → Bool) (xs : List X) → list_any q (filter p xs) ≡ list_any (λ x. p x && q x) xs
any-filter p q [] = refl
any-filter p q (x ∷ xs) = at (p x) (any-filter p q xs)
  where
    at : (b : Bool) → list_any q (filter p xs) ≡ list_any (λ y. p y && q y) xs
        → list_any q (cond b (x ∷ filter p xs) (filter p xs)) ≡ ((b && q x) || list_any (λ y. p y && q y) xs)
    at true h = ap (λ c. q x || c) h
    at false h = h

module _ (g : Flow) (ok : IsSound g) (test : ℕ → Bool) where
  -- a node reaches itself, and if it passes, what its successors reach
  pub reach-step : (s m : ℕ) → s < count_of g
      → is_reached g test s m ≡ (eqb s m || (test s && list_any (λ k. is_reached g test k m) (succ_of g s)))
  reach-step s m lt =
      let e = λ (k : ℕ). eqb k m in
      let next = passes-agree g ok false (rounds g false test e (count_of g)) (rounds g false test e (count_of g + 1))
      (settled g ok false test e (count_of g + 1) (omega arith)) s lt in
      ap (λ j. rounds g false test e j s) (add-one (count_of g)) ∙ ap (λ b. eqb s m || (test s && b)) next

  module _ (q : ℕ → Bool) where
    -- q holds at some node that walks from s reach
    abbrev pub somewhere : ℕ → Bool
    somewhere s = list_any (λ m. is_reached g test s m && q m) (numbers (count_of g))

    onward : (s : ℕ) → s < count_of g → somewhere s ≡ true → (q s || (test s && list_any somewhere (succ_of g s))) ≡ true
    onward s lt h =
        let m = any_found (λ m. is_reached g test s m && q m) (numbers (count_of g)) h in
        let there = and_right (is_reached g test s m.0) (q m.0) m.2 in
        ⊎_elim
        (λ e. or_left (q s) _ (ap q (eqb-same s m.0 e) ∙ there))
        (λ n.
        let k = any_found (λ k. is_reached g test k m.0) (succ_of g s) (and_right (test s) _ n) in
        or_right (q s) _ (and_both (test s) _ (and_left (test s) _ n) (any_has somewhere k.0 (succ_of g s) k.1
        (any_has (λ j. is_reached g test k.0 j && q j) m.0 (numbers (count_of g)) m.1 (and_both _ (q m.0) k.2 there)))))
        (or_cases (eqb s m.0) _ (sym (reach-step s m.0 lt) ∙ and_left (is_reached g test s m.0) (q m.0) m.2))

    back : (s : ℕ) → s < count_of g → (q s || (test s && list_any somewhere (succ_of g s))) ≡ true → somewhere s ≡ true
    back s lt h = ⊎_elim
        (λ here. any_numbers (λ m. is_reached g test s m && q m) (count_of g) s lt
        (and_both _ (q s) (reach-step s s lt ∙ or_left (eqb s s) _ (eqb-itself s)) here))
        (λ n.
        let k = any_found somewhere (succ_of g s) (and_right (test s) _ n) in
        let m = any_found (λ m. is_reached g test k.0 m && q m) (numbers (count_of g)) k.2 in
        let far = any_has (λ j. is_reached g test j m.0) k.0 (succ_of g s) k.1 (and_left (is_reached g test k.0 m.0) (q m.0) m.2) in
        any_has (λ j. is_reached g test s j && q j) m.0 (numbers (count_of g)) m.1
        (and_both _ (q m.0)
        (reach-step s m.0 lt ∙ or_right (eqb s m.0) _ (and_both (test s) _ (and_left (test s) _ n) far))
        (and_right (is_reached g test k.0 m.0) (q m.0) m.2)))
        (or_cases (q s) _ h)

    -- q holds here, or if s passes, at a node that a successor reaches
    pub somewhere-step : (s : ℕ) → s < count_of g → somewhere s ≡ (q s || (test s && list_any somewhere (succ_of g s)))
    somewhere-step s lt = same_bool (onward s lt) (back s lt)
