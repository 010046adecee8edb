-- The graphs that are made, with one graph more.
use Rattle.std.proofs.Common.{◌≡◌, ◌<◌, ◌⊎◌, inl, inr, ℕ, zero, suc, Bool, true, false, cond, refl, sym, ap, subst, ◌∙◌, arith}
use Rattle.std.proofs.Common.{List, [], ◌∷◌, length, Option, None, Some, All}
use Rattle.std.specs.Prelude.{slice_get, slice_set as set}
use Rattle.std.proofs.Math.ListN.{length-set}
use Rattle.std.proofs.lemmas.List.Elements.{All-head, All-tail}
use Rattle.cpp_lines.specs.declared.reading.Item.{Item}
use Rattle.cfg_build.specs.CfgGraph.Flow.{Flow}
use Rattle.c_file.specs.Fit.{item_graph}
use Rattle.c_file.specs.ItemGraphs.Pool.{Pool, graphs_in}
use Rattle.c_file.specs.ItemGraphs.Made.{AreMade, AreTyped, IsMade}
use Rattle.c_file.specs.ItemGraphs.Typed.{typed_graph, graph_in}

-- what is at a place in a list in which one place is set
set_here : {A : Type 0} (xs : List A) (i : ℕ) (x : A) → i < length xs → slice_get (set xs i x) i ≡ Some x
set_here [] i x lt = absurd (omega (arith, lt))
set_here (z ∷ zs) zero x lt = refl
set_here (z ∷ zs) (suc i) x lt = set_here zs i x (omega (arith, lt))

set_apart : {A : Type 0} (xs : List A) (i k : ℕ) (x : A) → (i ≡ k → ⊥) → slice_get (set xs i x) k ≡ slice_get xs k
set_apart [] i k x h = refl
set_apart (z ∷ zs) zero zero x h = absurd (h refl)
set_apart (z ∷ zs) zero (suc k) x h = refl
set_apart (z ∷ zs) (suc i) zero x h = refl
set_apart (z ∷ zs) (suc i) (suc k) x h = set_apart zs i k x (λ e. h (ap suc e))

same_or_apart : (i k : ℕ) → (i ≡ k) ⊎ (i ≡ k → ⊥)
same_or_apart zero zero = inl refl
same_or_apart zero (suc k) = inr (λ e. absurd (omega (arith, e)))
same_or_apart (suc i) zero = inr (λ e. absurd (omega (arith, e)))
same_or_apart (suc i) (suc k) = by (same_or_apart i k)
  where
    by : (i ≡ k) ⊎ (i ≡ k → ⊥) → (suc i ≡ suc k) ⊎ (suc i ≡ suc k → ⊥)
    by (inl e) = inl (ap suc e)
    by (inr h) = inr (λ e. h (omega (arith, e)))

-- no graphs are made at places that have none
none_there : (graphs : List (Option Flow)) → All (λ g. g ≡ None) graphs → (k : ℕ) (g : Flow) → slice_get graphs k ≡ Some (Some g) → ⊥
none_there [] a k g h = absurd cc
none_there (x ∷ xs) a zero g h = let n = All-head (λ (o : Option Flow). o ≡ None) x xs a in absurd cc
none_there (x ∷ xs) a (suc k) g h = none_there xs (All-tail (λ (o : Option Flow). o ≡ None) x xs a) k g h

-- places without graphs
pub made_places : (items : List Item) (graphs : List (Option Flow)) → length graphs ≡ length items → All (λ g. g ≡ None) graphs → AreMade items graphs
made_places items graphs n a = record { all = n; own = λ k g h. absurd (none_there graphs a k g h) }

pub typed_places : (items : List Item) (graphs : List (Option Flow)) → length graphs ≡ length items → All (λ g. g ≡ None) graphs → AreTyped items graphs
typed_places items graphs n a = record { all = n; own = λ k g h. absurd (none_there graphs a k g h) }

pub typed_set : (items : List Item) (graphs : List (Option Flow)) (i : ℕ) (o : Option Flow) → AreTyped items graphs → o ≡ typed_graph items i
    → i < length graphs → AreTyped items (set graphs i o)
typed_set items graphs i o t e lt = record {
  all = length-set graphs i o ∙ t.all;
  own = λ k g h. at k g (same_or_apart i k) h;
}
  where
    at : (k : ℕ) (g : Flow) → (i ≡ k) ⊎ (i ≡ k → ⊥) → slice_get (set graphs i o) k ≡ Some (Some g) → typed_graph items k ≡ Some g
    at k g (inl q) h =
        let there : slice_get (set graphs i o) k ≡ Some o = ap (λ n. slice_get (set graphs i o) n) (sym q) ∙ set_here graphs i o lt in
        let same : o ≡ Some g = cc in
        ap (typed_graph items) (sym q) ∙ sym e ∙ same
    at k g (inr q) h = t.own k g (sym (set_apart graphs i k o q) ∙ h)

pub plain_set : (items : List Item) (graphs : List (Option Flow)) (i : ℕ) (o : Option Flow) → AreMade items graphs → o ≡ item_graph (slice_get items i)
    → i < length graphs → AreMade items (set graphs i o)
plain_set items graphs i o m e lt = record {
  all = length-set graphs i o ∙ m.all;
  own = λ k g h. at k g (same_or_apart i k) h;
}
  where
    at : (k : ℕ) (g : Flow) → (i ≡ k) ⊎ (i ≡ k → ⊥) → slice_get (set graphs i o) k ≡ Some (Some g) → item_graph (slice_get items k) ≡ Some g
    at k g (inl q) h =
        let there : slice_get (set graphs i o) k ≡ Some o = ap (λ n. slice_get (set graphs i o) n) (sym q) ∙ set_here graphs i o lt in
        let same : o ≡ Some g = cc in
        ap (λ n. item_graph (slice_get items n)) (sym q) ∙ sym e ∙ same
    at k g (inr q) h = m.own k g (sym (set_apart graphs i k o q) ∙ h)

-- the graph that is set is made, and those that are made stay
module _ (graphs : List (Option Flow)) (wanted : ℕ → Option Flow) (i : ℕ) (o : Option Flow) (e : o ≡ wanted i) where
  pub set_made : i < length graphs → slice_get (set graphs i o) i ≡ Some (wanted i)
  set_made lt = set_here graphs i o lt ∙ ap Some e

  pub set_kept : (k : ℕ) → slice_get graphs k ≡ Some (wanted k) → slice_get (set graphs i o) k ≡ Some (wanted k)
  set_kept k h = by (same_or_apart i k)
    where
      within : (xs : List (Option Flow)) (n : ℕ) (x : Option Flow) → slice_get xs n ≡ Some x → n < length xs
      within [] n x q = absurd cc
      within (y ∷ ys) zero x q = omega arith
      within (y ∷ ys) (suc n) x q = let r = within ys n x q in omega (arith, r)

      by : (i ≡ k) ⊎ (i ≡ k → ⊥) → slice_get (set graphs i o) k ≡ Some (wanted k)
      by (inl q) =
          let lt : i < length graphs = let w = within graphs k (wanted k) h in omega (arith, w, q) in
          ap (λ n. slice_get (set graphs i o) n) (sym q) ∙ set_here graphs i o lt ∙ ap Some e ∙ ap (λ n. Some (wanted n)) q
      by (inr q) = set_apart graphs i k o q ∙ h

module _ (items : List Item) (made typed : List (Option Flow)) where
  -- a graph that is there is made
  pub there_made : AreMade items made → AreTyped items typed → (b : Bool) (i : ℕ) (g : Flow) → slice_get (cond b typed made) i ≡ Some (Some g)
      → slice_get (cond b typed made) i ≡ Some (graph_in b items i)
  there_made m t true i g h = h ∙ ap Some (sym (t.own i g h))
  there_made m t false i g h = h ∙ ap Some (sym (m.own i g h))

  -- only graphs with types change
  pub typed_kept : (later : List (Option Flow)) → ((k : ℕ) → slice_get typed k ≡ Some (typed_graph items k) → slice_get later k ≡ Some (typed_graph items k))
      → (b : Bool) (k : ℕ) → slice_get (cond b typed made) k ≡ Some (graph_in b items k) → slice_get (cond b later made) k ≡ Some (graph_in b items k)
  typed_kept later keeps true k h = keeps k h
  typed_kept later keeps false k h = h

  -- only graphs without types change
  pub plain_kept : (later : List (Option Flow))
      → ((k : ℕ) → slice_get made k ≡ Some (item_graph (slice_get items k)) → slice_get later k ≡ Some (item_graph (slice_get items k)))
      → (b : Bool) (k : ℕ) → slice_get (cond b typed made) k ≡ Some (graph_in b items k) → slice_get (cond b typed later) k ≡ Some (graph_in b items k)
  plain_kept later keeps true k h = h
  plain_kept later keeps false k h = keeps k h

-- the graphs of a pool with or without types
pub typed_in : (b : Bool) (p : Pool) → b ≡ true → p.typed ≡ graphs_in b p
typed_in b p e = rw e

pub plain_in : (b : Bool) (p : Pool) → b ≡ false → p.graphs ≡ graphs_in b p
plain_in b p e = rw e

-- a graph that is at one of these places is made
pub own_in : (items : List Item) (made typed : List (Option Flow)) (p : Pool) → record { items = items; graphs = made; typed = typed } ≡ p
    → AreMade items made → AreTyped items typed → (b : Bool) (graphs : List (Option Flow)) → graphs ≡ graphs_in b p
    → (i : ℕ) (g : Flow) → slice_get graphs i ≡ Some (Some g) → IsMade p b i
own_in items made typed p v m t b graphs e i g h =
    let same : graphs ≡ cond b typed made = e ∙ sym (ap (graphs_in b) v) in
    subst (λ (q : Pool). IsMade q b i) v (there_made items made typed m t b i g (ap (λ gs. slice_get gs i) (sym same) ∙ h))
