-- The successors of a node are nodes of the graph.
use Rattle.std.proofs.Common.{◌≡◌, ℕ, suc, zero, ◌<◌, refl, sym, ap, ◌∙◌, subst, arith, List, [], ◌∷◌, length}
use Rattle.std.proofs.Common.{get_or, Option, None, Some, slice_get, IfSome, Contains}
use Rattle.cfg_build.specs.CfgGraph.Flow.{Flow, IsSound, count_of, succ_of, past_of, down_of}

first : (l : List ℕ) → 0 < length l → (k : ℕ) × Contains l k
first [] h = absurd (omega (arith, h))
first (k ∷ l) h = (k, (0, omega arith, refl))

-- the number at a place of a list is in the list
pub got : (l : List ℕ) (i k : ℕ) → slice_get l i ≡ Some k → Contains l k
got [] i k e = absurd (cc)
got (n ∷ l) zero k e = let same : n ≡ k = cc in (zero, omega arith, same)
got (n ∷ l) (suc i) k e = let r = got l i k e in (suc r.0, omega (arith, r.1), r.2)

module _ (g : Flow) (ok : IsSound g) where
  pub node_after : (n k : ℕ) → n < count_of g → Contains (succ_of g n) k → k < count_of g
  node_after n k lt c =
      let links = ok.succ_links n [] (omega (arith, lt, ok.succ_each)) in
      subst (λ j. j < count_of g) c.2 (links.nodes c.0 k c.1)

  pub first_after : (n : ℕ) → n < count_of g → (k : ℕ) × Contains (succ_of g n) k
  first_after n lt = first (succ_of g n) (ok.succ_links n [] (omega (arith, lt, ok.succ_each))).some

  pub past_node : (n k : ℕ) → n < count_of g → past_of g n ≡ Some k → k < count_of g
  past_node n k lt e =
      subst (λ (o : Option ℕ). IfSome o (λ j. j < count_of g)) e (ok.past_nodes n None (omega (arith, lt, ok.past_each)))

  pub down_node : (n i k : ℕ) → n < count_of g → slice_get (down_of g n) i ≡ Some k → k < count_of g
  down_node n i k lt e =
      let c = got (down_of g n) i k e in
      let links = ok.down_nodes n [] (omega (arith, lt, ok.down_each)) in
      subst (λ j. j < count_of g) c.2 (links c.0 k c.1)
