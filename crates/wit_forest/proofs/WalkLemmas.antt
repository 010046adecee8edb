-- What is found along the walks of an until.
use Rattle.std.proofs.Common.{◌≡◌, ℕ, suc, zero, ◌+◌, ◌<◌, ⊎_elim, Bool, true, false, ◌&&◌, eqb, subst, Contains}
use Rattle.std.specs.List.{list_any}
use Rattle.cfg_build.specs.CfgGraph.Flow.{Flow, IsSound, count_of, succ_of}
use Rattle.ctl_fixpoint.specs.CtlHolds.Rounds.{rounds}
use Rattle.ctl_fixpoint.proofs.CtlHolds.TestLemmas.{or_cases, and_left, and_right, any_found, any_has}
use Rattle.ctl_fixpoint.proofs.CtlHolds.GraphLemmas.{node_after}
use Rattle.wit_forest.specs.WitTrees.Forest.{numbers, is_reached}
use Rattle.wit_forest.proofs.WitTrees.ReachLemmas.{eqb-same, eqb-itself}
use Rattle.wit_forest.proofs.WitSteps.KidLemmas.{numbers_below}

module _ (g : Flow) (ok : IsSound g) (test q u : ℕ → Bool) (C : ℕ → Type 0) (F : Bool)
    (look : (k : ℕ) → C k → q k ≡ true → F ≡ true)
    (back : (m : ℕ) → m < count_of g → q m ≡ true → (n k : ℕ) → k < count_of g → rounds g false test (λ j. eqb j m) n k ≡ true → u k ≡ true)
    (next : (k j : ℕ) → C k → test k ≡ true → Contains (succ_of g k) j → u j ≡ true → C j) where
  walk : (m : ℕ) → m < count_of g → q m ≡ true → (n k : ℕ) → k < count_of g → C k → rounds g false test (λ j. eqb j m) n k ≡ true → F ≡ true
  walk m lm h zero k lt c r = absurd cc
  walk m lm h (suc n) k lt c r = ⊎_elim
      (λ here. look m (subst C (eqb-same k m here) c) h)
      (λ on.
      let j = any_found (rounds g false test (λ j. eqb j m) n) (succ_of g k) (and_right (test k) _ on) in
      let lj = node_after g ok k j.0 lt j.1 in
      walk m lm h n j.0 lj (next k j.0 c (and_left (test k) _ on) j.1 (back m lm h n j.0 lj j.2)) j.2)
      (or_cases (eqb k m) _ r)

  -- what some node that walks reach has is found
  pub found_on_walks : (s : ℕ) → s < count_of g → C s → list_any (λ m. is_reached g test s m && q m) (numbers (count_of g)) ≡ true → F ≡ true
  found_on_walks s lt c h =
      let m = any_found (λ m. is_reached g test s m && q m) (numbers (count_of g)) h in
      let lm = numbers_below (count_of g) m.0 (any_has (λ k. eqb k m.0) m.0 (numbers (count_of g)) m.1 (eqb-itself m.0)) in
      walk m.0 lm (and_right (is_reached g test s m.0) (q m.0) m.2) (count_of g + 1) s lt c (and_left (is_reached g test s m.0) (q m.0) m.2)
