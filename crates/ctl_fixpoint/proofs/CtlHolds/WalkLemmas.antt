-- Rounds find exactly the walks that exist.
-- Proof: a walk of an until is found node by node, one per round. If every walk is required and the rounds say no, we build
-- a walk of any length that never reaches its end; it can be continued because each node has a successor.
use Rattle.std.proofs.Common.{◌≡◌, ℕ, suc, zero, ◌+◌, ◌<◌, ◌≤◌, Bool, true, false, ◌&&◌, ◌||◌, refl, sym, ap, ◌∙◌, arith}
use Rattle.std.proofs.Common.{List, [], ◌∷◌, length, ◌⊎◌, inl, inr, ⊎_elim, Contains}
use Rattle.std.specs.Bool.{Decides}
use Rattle.cfg_build.specs.CfgGraph.Flow.{Flow, IsSound, count_of, succ_of}
use Rattle.cfg_build.specs.CfgGraph.Walks.{Follows}
use Rattle.ctl_fixpoint.specs.CtlHolds.Untils.{EndsIn, Reaches, SomeWalk, EveryWalk}
use Rattle.ctl_fixpoint.specs.CtlHolds.Rounds.{passes, rounds}
use Rattle.ctl_fixpoint.proofs.CtlHolds.TestLemmas.{or_cases, or_left, or_right, and_left, and_right, and_both, or_false, and_false}
use Rattle.ctl_fixpoint.proofs.CtlHolds.TestLemmas.{true_or_false, not_both, any_found, any_has, all_has, all_lacks}
use Rattle.ctl_fixpoint.proofs.CtlHolds.GraphLemmas.{node_after, first_after}

module _ (g : Flow) (ok : IsSound g) where
  -- a walk of any length
  any_walk : (m n : ℕ) → n < count_of g → (w : List ℕ) × Follows g n w × (length w ≡ m)
  any_walk zero n lt = ([], tt, refl)
  any_walk (suc m) n lt =
      let k = first_after g ok n lt in
      let r = any_walk m k.0 (node_after g ok n k.0 lt k.1) in
      (k.0 ∷ r.0, (k.1, r.1), ap suc r.2)

  module _ (P Q : ℕ → Type 0) (p q : ℕ → Bool) (dp : (n : ℕ) → n < count_of g → Decides (p n) (P n))
      (dq : (n : ℕ) → n < count_of g → Decides (q n) (Q n)) where
    to_walk : (m n : ℕ) → n < count_of g → rounds g false p q m n ≡ true → SomeWalk g m P Q n
    to_walk zero n lt h = absurd (cc)
    to_walk (suc m) n lt h = ⊎_elim
        (λ here. ([], (lt, tt), omega arith, (dq n lt).0 here))
        (λ there.
        let f = any_found (rounds g false p q m) (succ_of g n) (and_right (p n) _ there) in
        let r = to_walk m f.0 (node_after g ok n f.0 lt f.1) f.2 in
        (f.0 ∷ r.0, (lt, (f.1, r.1.1)), omega (arith, r.2), ((dp n lt).0 (and_left (p n) _ there), r.3)))
        (or_cases (q n) _ h)

    from_walk : (m n : ℕ) (w : List ℕ) → n < count_of g → Follows g n w → suc (length w) ≤ m → EndsIn P Q n w
        → rounds g false p q m n ≡ true
    from_walk zero n w lt f le e = absurd (omega (arith, le))
    from_walk (suc m) n [] lt f le e = or_left (q n) _ ((dq n lt).1 e)
    from_walk (suc m) n (k ∷ w) lt f le e =
        let r = from_walk m k w (node_after g ok n k lt f.0) f.1 (omega (arith, le)) e.1 in
        or_right (q n) _
        (and_both (p n) _ ((dp n lt).1 e.0) (any_has (rounds g false p q m) k (succ_of g n) f.0 r))

    -- some walk of at most m nodes
    pub some_decides : (m n : ℕ) → n < count_of g → Decides (rounds g false p q m n) (SomeWalk g m P Q n)
    some_decides m n lt = (to_walk m n lt, λ w. from_walk m n w.0 lt w.1.1 w.2 w.3)

    reach : (m n : ℕ) (w : List ℕ) → n < count_of g → Follows g n w → suc (length w) ≡ m
        → rounds g true p q m n ≡ true → Reaches P Q n w
    reach zero n w lt f e h = absurd (omega (arith, e))
    reach (suc zero) n [] lt f e h = ⊎_elim
        (λ here. (dq n lt).0 here)
        (λ there.
        let k = first_after g ok n lt in
        not_both false (all_has (rounds g true p q zero) k.0 (succ_of g n) k.1 (and_right (p n) _ there)) refl)
        (or_cases (q n) _ h)
    reach (suc zero) n (k ∷ w) lt f e h = absurd (omega (arith, e))
    reach (suc (suc m)) n [] lt f e h = absurd (omega (arith, e))
    reach (suc (suc m)) n (k ∷ w) lt f e h = ⊎_elim
        (λ here. inl ((dq n lt).0 here))
        (λ there.
        let r = all_has (rounds g true p q (suc m)) k (succ_of g n) f.0 (and_right (p n) _ there) in
        inr (
          (dp n lt).0 (and_left (p n) _ there),
          reach (suc m) k w (node_after g ok n k lt f.0) f.1 (omega (arith, e)) r,
        ))
        (or_cases (q n) _ h)

    not_here : (n : ℕ) → n < count_of g → q n ≡ false → Q n → ⊥
    not_here n lt h x = not_both (q n) ((dq n lt).1 x) h

    not_through : (n : ℕ) → n < count_of g → p n ≡ false → P n → ⊥
    not_through n lt h x = not_both (p n) ((dp n lt).1 x) h

    -- a walk whose first node is neither Q nor P
    leaves_at_once : (n : ℕ) (w : List ℕ) → n < count_of g → q n ≡ false → p n ≡ false → Reaches P Q n w → ⊥
    leaves_at_once n [] lt h out r = not_here n lt h r
    leaves_at_once n (k ∷ w) lt h out r = ⊎_elim (not_here n lt h) (λ x. not_through n lt out x.0) r

    -- if the rounds say no, some walk never reaches Q
    stuck : (m n : ℕ) → n < count_of g → rounds g true p q (suc m) n ≡ false
        → (w : List ℕ) × Follows g n w × (length w ≡ m) × (Reaches P Q n w → ⊥)
    stuck zero n lt h = ([], tt, refl, not_here n lt (or_false (q n) _ h).0)
    stuck (suc m) n lt h =
        let t = or_false (q n) _ h in
        ⊎_elim
        (λ out.
        let r = any_walk (suc m) n lt in
        (r.0, r.1, r.2, leaves_at_once n r.0 lt t.0 out))
        (λ next.
        let k = all_lacks (rounds g true p q (suc m)) (succ_of g n) next in
        let r = stuck m k.0 (node_after g ok n k.0 lt k.1) k.2 in
        (k.0 ∷ r.0, (k.1, r.1), ap suc r.2, λ x. ⊎_elim (not_here n lt t.0) (λ y. r.3 y.1) x))
        (and_false (p n) _ t.1)

    from_every : (m n : ℕ) → 0 < m → n < count_of g → EveryWalk g m P Q n → rounds g true p q m n ≡ true
    from_every zero n pos lt all = absurd (omega (arith, pos))
    from_every (suc m) n pos lt all = ⊎_elim
        (λ t. t)
        (λ f. let r = stuck m n lt f in absurd (r.3 (all r.0 (lt, r.1) (ap suc r.2))))
        (true_or_false (rounds g true p q (suc m) n))

    -- every walk of exactly m nodes
    pub every_decides : (m n : ℕ) → 0 < m → n < count_of g → Decides (rounds g true p q m n) (EveryWalk g m P Q n)
    every_decides m n pos lt = (λ h w f e. reach m n w lt f.1 e h, from_every m n pos lt)
