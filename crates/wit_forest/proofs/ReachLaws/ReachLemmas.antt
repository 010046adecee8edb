-- Rounds find the ends of all walks.
use Rattle.std.proofs.Common.{◌≡◌, ◌+◌, ◌<◌, ◌≤◌, ◌⊎◌, ◌↔◌, ℕ, zero, suc, Bool, true, false, eqb, List, [], ◌∷◌, ◌++◌, length}
use Rattle.std.proofs.Common.{Contains, slice_index_or, filter, if◌then◌else◌, inl, inr, refl, sym, ap, ◌∙◌, subst, arith}
use Rattle.std.specs.Bool.{Decides}
use Rattle.std.proofs.lemmas.Bool.{eqb-true, eq-eqb}
use Rattle.cfg_build.specs.CfgGraph.Flow.{Flow, IsSound, count_of}
use Rattle.cfg_build.specs.CfgGraph.Walks.{Follows}
use Rattle.ctl_fixpoint.specs.CtlHolds.Untils.{EndsIn, SomeWalk}
use Rattle.ctl_fixpoint.specs.CtlHolds.Rounds.{rounds}
use Rattle.ctl_fixpoint.proofs.CtlHolds.GraphLemmas.{node_after}
use Rattle.ctl_fixpoint.proofs.CtlHolds.RoundLemmas.{settled}
use Rattle.ctl_fixpoint.proofs.CtlHolds.WalkLemmas.{some_decides}
use Rattle.wit_forest.specs.WitTrees.Forest.{numbers, is_reached, reached}
use Rattle.wit_forest.specs.ReachLaws.Reaching.{Comes}

-- ---- members

abbrev In : List ℕ → ℕ → Type 0
In [] n = ⊥
In (x ∷ xs) n = (x ≡ n) ⊎ In xs n

pub to_contains : (xs : List ℕ) (n : ℕ) → In xs n → Contains xs n
to_contains [] n h = absurd h
to_contains (x ∷ xs) n (inl e) = (0, omega arith, e)
to_contains (x ∷ xs) n (inr h) = let c = to_contains xs n h in (suc c.0, omega (arith, c.1), c.2)

pub from_at : (xs : List ℕ) (n k : ℕ) → k < length xs → slice_index_or xs k n ≡ n → In xs n
from_at [] n k lt e = absurd (omega (arith, lt))
from_at (x ∷ xs) n zero lt e = inl e
from_at (x ∷ xs) n (suc k) lt e = inr (from_at xs n k (omega (arith, lt)) e)

pub from_contains : (xs : List ℕ) (n : ℕ) → Contains xs n → In xs n
from_contains xs n c = from_at xs n c.0 c.1 c.2

in_left : (xs ys : List ℕ) (n : ℕ) → In xs n → In (xs ++ ys) n
in_left [] ys n h = absurd h
in_left (x ∷ xs) ys n (inl e) = inl e
in_left (x ∷ xs) ys n (inr h) = inr (in_left xs ys n h)

in_right : (xs ys : List ℕ) (n : ℕ) → In ys n → In (xs ++ ys) n
in_right [] ys n h = h
in_right (x ∷ xs) ys n h = inr (in_right xs ys n h)

less_or_same : (k n : ℕ) → k < suc n → (k < n) ⊎ (k ≡ n)
less_or_same k n lt = grind arith

numbers_have : (n k : ℕ) → k < n → In (numbers n) k
numbers_have zero k lt = absurd (omega (arith, lt))
numbers_have (suc n) k lt = elim (less_or_same k n lt) [
  | inl less ↦ in_left (numbers n) (n ∷ []) k (numbers_have n k less)
  | inr same ↦ in_right (numbers n) (n ∷ []) k (inl (sym same))
]

module _ (p : ℕ → Bool) where
  kept_by : (b : Bool) (x : ℕ) (xs : List ℕ) (n : ℕ) → p x ≡ b → (In (filter p xs) n → p n ≡ true) → In (filter p (x ∷ xs)) n → p n ≡ true
  kept_by true x xs n e rest h = elim (subst (λ (c : Bool). In (if c then x ∷ filter p xs else filter p xs) n) e h) [
    | inl same ↦ subst (λ (k : ℕ). p k ≡ true) same e
    | inr more ↦ rest more
  ]
  kept_by false x xs n e rest h = rest (subst (λ (c : Bool). In (if c then x ∷ filter p xs else filter p xs) n) e h)

  kept : (xs : List ℕ) (n : ℕ) → In (filter p xs) n → p n ≡ true
  kept [] n h = absurd h
  kept (x ∷ xs) n h = kept_by (p x) x xs n refl (kept xs n) h

  keeps_by : (b : Bool) (x : ℕ) (xs : List ℕ) (n : ℕ) → p x ≡ b → p n ≡ true → (x ≡ n) ⊎ In (filter p xs) n → In (filter p (x ∷ xs)) n
  keeps_by true x xs n e is h = subst (λ (c : Bool). In (if c then x ∷ filter p xs else filter p xs) n) (sym e) h
  keeps_by false x xs n e is (inl same) = let both : false ≡ true = sym e ∙ ap p same ∙ is in absurd cc
  keeps_by false x xs n e is (inr h) = subst (λ (c : Bool). In (if c then x ∷ filter p xs else filter p xs) n) (sym e) h

  keeps : (xs : List ℕ) (n : ℕ) → p n ≡ true → In xs n → In (filter p xs) n
  keeps [] n is h = absurd h
  keeps (x ∷ xs) n is (inl same) = keeps_by (p x) x xs n refl is (inl same)
  keeps (x ∷ xs) n is (inr h) = keeps_by (p x) x xs n refl is (inr (keeps xs n is h))

-- ---- walks

bool_decides : (b : Bool) → Decides b (b ≡ true)
bool_decides b = (λ h. h, λ h. h)

same_decides : (k n : ℕ) → Decides (eqb k n) (k ≡ n)
same_decides k n = (eqb-true k n, eq-eqb k n)

module _ (g : Flow) (ok : IsSound g) (test : ℕ → Bool) (s n : ℕ) (lt : s < count_of g) where
  abbrev Passes : ℕ → Type 0
  Passes k = test k ≡ true

  abbrev Ends : ℕ → Type 0
  Ends k = k ≡ n

  decides : (m : ℕ) → Decides (rounds g false test (λ k. eqb k n) m s) (SomeWalk g m Passes Ends s)
  decides m = some_decides g ok Passes Ends test (λ k. eqb k n) (λ k less. bool_decides (test k)) (λ k less. same_decides k n) m s lt

  -- a walk of any length is found in one round more than there are nodes
  found : (m : ℕ) → count_of g ≤ m → rounds g false test (λ k. eqb k n) m s ≡ true → is_reached g test s n ≡ true
  found m long h =
      sym (settled g ok false test (λ k. eqb k n) (count_of g + 1) (omega arith) s lt)
      ∙ settled g ok false test (λ k. eqb k n) m long s lt ∙ h

  -- the last node of a walk is one of the graph
  last_within : (k : ℕ) (walk : List ℕ) → k < count_of g → Follows g k walk → EndsIn Passes Ends k walk → n < count_of g
  last_within k [] within follows ends = subst (λ (j : ℕ). j < count_of g) ends within
  last_within k (j ∷ walk) within follows ends = last_within j walk (node_after g ok k j within follows.0) follows.1 ends.1

  to_walk : Contains (reached g test s) n → Comes g test s n
  to_walk c =
      let is = kept (is_reached g test s) (numbers (count_of g)) n (from_contains (reached g test s) n c) in
      let walk = (decides (count_of g + 1)).0 is in
      (walk.0, walk.1, walk.3)

  from_walk : Comes g test s n → Contains (reached g test s) n
  from_walk c =
      let walk = c.0 in
      let m = count_of g + length (s ∷ walk) in
      let is = found m (omega arith) ((decides m).1 (walk, c.1, omega arith, c.2)) in
      let within = last_within s walk lt c.1.1 c.2 in
      to_contains (reached g test s) n (keeps (is_reached g test s) (numbers (count_of g)) n is (numbers_have (count_of g) n within))

  pub both_ways : Contains (reached g test s) n ↔ Comes g test s n
  both_ways = (to_walk, from_walk)
