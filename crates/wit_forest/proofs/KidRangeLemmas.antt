-- The parts that a node leads to are its own parts, and for an until also itself, at nodes of the graph.
use Rattle.std.proofs.Common.{◌≡◌, ℕ, suc, zero, ◌<◌, Bool, true, false, cond, refl, subst, arith, List, [], ◌∷◌, ◌++◌, map}
use Rattle.std.proofs.Common.{length, get_or, Option, Some, None, Contains}
use Rattle.std.specs.Prelude.{slice_get, nat_lt}
use Rattle.std.specs.List.{flat_map}
use Rattle.cfg_build.specs.CfgGraph.Flow.{Flow, IsSound, count_of, succ_of, past_of, down_of}
use Rattle.ctl_formula.specs.Tables.{below}
use Rattle.ctl_formula.specs.declared.node.Node.{Node}
use Rattle.ctl_formula.specs.declared.node.Node.TheVariants as node
use Rattle.ctl_formula.proofs.TableLemmas.{lt-true}
use Rattle.ctl_fixpoint.proofs.CtlHolds.TestLemmas.{and_left, and_right, Contains-first, Contains-later}
use Rattle.ctl_fixpoint.proofs.CtlHolds.GraphLemmas.{node_after, past_node, down_node}
use Rattle.wit_forest.specs.WitSteps.Steps.{kids, held, way_on, there}

abbrev pub is_until : Node → Bool
is_until (node.AU i j) = true
is_until (node.EU i j) = true
is_until _ = false

-- P holds for each part of the node
abbrev pub EachKid : (ℕ → Type 0) → Node → Type 0
EachKid P (node.Not i) = P i
EachKid P (node.And i j) = P i × P j
EachKid P (node.Or i j) = P i × P j
EachKid P (node.AX i) = P i
EachKid P (node.EX i) = P i
EachKid P (node.AU i j) = P i × P j
EachKid P (node.EU i j) = P i × P j
EachKid P (node.After i) = P i
EachKid P (node.InBranch b i) = P i
EachKid P (node.Exists x i) = P i
EachKid P _ = Unit {0}

pub each_below : (n : ℕ) (x : Node) → below n x ≡ true → EachKid (λ i. i < n) x
each_below n node.True b = tt
each_below n (node.Atom p) b = tt
each_below n node.EarlyExit b = tt
each_below n (node.BraceOpen p v) b = tt
each_below n (node.BraceClose p v) b = tt
each_below n (node.Inside y) b = tt
each_below n (node.Outside y) b = tt
each_below n (node.Not i) b = lt-true i n b
each_below n (node.And i j) b = (lt-true i n (and_left _ _ b), lt-true j n (and_right (nat_lt i n) _ b))
each_below n (node.Or i j) b = (lt-true i n (and_left _ _ b), lt-true j n (and_right (nat_lt i n) _ b))
each_below n (node.AX i) b = lt-true i n b
each_below n (node.EX i) b = lt-true i n b
each_below n (node.AU i j) b = (lt-true i n (and_left _ _ b), lt-true j n (and_right (nat_lt i n) _ b))
each_below n (node.EU i j) b = (lt-true i n (and_left _ _ b), lt-true j n (and_right (nat_lt i n) _ b))
each_below n (node.After i) b = lt-true i n b
each_below n (node.InBranch v i) b = lt-true i n b
each_below n (node.Exists x i) b = lt-true i n b

module _ (g : Flow) (ok : IsSound g) (H : ℕ → ℕ → Bool) (P : ℕ → Type 0) where
  abbrev Fine : ℕ × ℕ → Type 0
  Fine k = P k.0 × (k.1 < count_of g)

  abbrev Every : List (ℕ × ℕ) → Type 0
  Every [] = Unit {0}
  Every (k ∷ ks) = Fine k × Every ks

  joined : (xs ys : List (ℕ × ℕ)) → Every xs → Every ys → Every (xs ++ ys)
  joined [] ys h k = k
  joined (x ∷ xs) ys h k = (h.0, joined xs ys h.1 k)

  one_of : (b : Bool) (i s : ℕ) → P i → s < count_of g → Every (cond b ((i, s) ∷ []) [])
  one_of true i s h l = ((h, l), tt)
  one_of false i s h l = tt

  some_of : (b : Bool) (xs : List (ℕ × ℕ)) → Every xs → Every (cond b xs [])
  some_of true xs h = h
  some_of false xs h = tt

  abbrev Nodes : List ℕ → Type 0
  Nodes xs = (k : ℕ) → Contains xs k → k < count_of g

  later : (x : ℕ) (xs : List ℕ) → Nodes (x ∷ xs) → Nodes xs
  later x xs ns k c = ns k (Contains-later x k xs c)

  each_next : (i : ℕ) (xs : List ℕ) → Nodes xs → P i → Every (map (λ k. (i, k)) xs)
  each_next i [] ns h = tt
  each_next i (x ∷ xs) ns h = ((h, ns x (Contains-first x xs)), each_next i xs (later x xs ns) h)

  each_held : (i : ℕ) (xs : List ℕ) → Nodes xs → P i → Every (flat_map (held g H i) xs)
  each_held i [] ns h = tt
  each_held i (x ∷ xs) ns h =
      joined (held g H i x) (flat_map (held g H i) xs) (one_of (H i x) i x h (ns x (Contains-first x xs))) (each_held i xs (later x xs ns) h)

  each_way : (part i s : ℕ) (xs : List ℕ) → Nodes xs → P part → P i → s < count_of g → Every (flat_map (way_on g H part i s) xs)
  each_way part i s [] ns h k l = tt
  each_way part i s (x ∷ xs) ns h k l =
      joined (way_on g H part i s x) (flat_map (way_on g H part i s) xs)
      (some_of (H part x) ((i, s) ∷ (part, x) ∷ []) ((k, l), ((h, ns x (Contains-first x xs)), tt)))
      (each_way part i s xs (later x xs ns) h k l)

  option : (i : ℕ) (o : Option ℕ) → ((k : ℕ) → o ≡ Some k → k < count_of g) → P i → Every (there i o)
  option i None l h = tt
  option i (Some k) l h = ((h, l k refl), tt)

  every_until : (part i j s : ℕ) (b c : Bool) → Nodes (succ_of g s) → P part → P i → P j → s < count_of g
      → Every (cond b ((j, s) ∷ []) ((i, s) ∷ cond c (map (λ k. (part, k)) (succ_of g s)) []))
  every_until part i j s true c ns h k m l = ((m, l), tt)
  every_until part i j s false c ns h k m l = ((k, l), some_of c (map (λ k. (part, k)) (succ_of g s)) (each_next part (succ_of g s) ns h))

  all_fine : (x : Node) (part s : ℕ) → s < count_of g → EachKid P x → (is_until x ≡ true → P part) → Every (kids g H x part s)
  all_fine node.True part s l e u = tt
  all_fine (node.Atom p) part s l e u = tt
  all_fine node.EarlyExit part s l e u = tt
  all_fine (node.BraceOpen p v) part s l e u = tt
  all_fine (node.BraceClose p v) part s l e u = tt
  all_fine (node.Inside b) part s l e u = tt
  all_fine (node.Outside b) part s l e u = tt
  all_fine (node.Not i) part s l e u = tt
  all_fine (node.And i j) part s l e u = ((e.0, l), ((e.1, l), tt))
  all_fine (node.Or i j) part s l e u = joined (held g H i s) (held g H j s) (one_of (H i s) i s e.0 l) (one_of (H j s) j s e.1 l)
  all_fine (node.AX i) part s l e u = each_next i (succ_of g s) (λ k c. node_after g ok s k l c) e
  all_fine (node.EX i) part s l e u = each_held i (succ_of g s) (λ k c. node_after g ok s k l c) e
  all_fine (node.AU i j) part s l e u = every_until part i j s (H j s) (H i s) (λ k c. node_after g ok s k l c) (u refl) e.0 e.1 l
  all_fine (node.EU i j) part s l e u =
      joined (held g H j s) _ (one_of (H j s) j s e.1 l)
      (some_of (H i s) (flat_map (way_on g H part i s) (succ_of g s)) (each_way part i s (succ_of g s) (λ k c. node_after g ok s k l c) (u refl) e.0 l))
  all_fine (node.After i) part s l e u = option i (past_of g s) (λ k r. past_node g ok s k l r) e
  all_fine (node.InBranch v i) part s l e u = option i (slice_get (down_of g s) v) (λ k r. down_node g ok s v k l r) e
  all_fine (node.Exists v i) part s l e u = tt

  at_member : (ks : List (ℕ × ℕ)) (k : ℕ × ℕ) (i : ℕ) → i < length ks → get_or ks i k ≡ k → Every ks → Fine k
  at_member [] k i lt e h = absurd (omega (arith, lt))
  at_member (x ∷ ks) k zero lt e h = subst Fine e h.0
  at_member (x ∷ ks) k (suc i) lt e h = at_member ks k i (omega (arith, lt)) e h.1

  pub kid_fine : (x : Node) (part s : ℕ) → s < count_of g → EachKid P x → (is_until x ≡ true → P part)
      → (k : ℕ × ℕ) → Contains (kids g H x part s) k → P k.0 × (k.1 < count_of g)
  kid_fine x part s l e u k c = at_member (kids g H x part s) k c.0 c.1 c.2 (all_fine x part s l e u)

clash : (b : Bool) → b ≡ false → b ≡ true → ⊥
clash true h k = absurd cc
clash false h k = absurd cc

pub kid_smaller : (g : Flow) → IsSound g → (H : ℕ → ℕ → Bool) (n : ℕ) (x : Node) → is_until x ≡ false → below n x ≡ true
    → (part s : ℕ) → s < count_of g → (k : ℕ × ℕ) → Contains (kids g H x part s) k → k.0 < n
kid_smaller g ok H n x u b part s l k c =
    let r = kid_fine g ok H (λ i. i < n) x part s l (each_below n x b) (λ t. absurd (clash (is_until x) u t)) k c in r.0
