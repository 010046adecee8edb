-- Sizes: distinct trees that are all in a list are together no larger than the list, and the tree of a value is larger than
-- the forest under it.
use Rattle.std.proofs.Common.{◌≡◌, ℕ, ◌+◌, ◌<◌, ◌≤◌, ⊎_elim, Bool, true, false, ◌||◌, cond, refl, sym, ap, ◌∙◌, arith, List, [], ◌∷◌, map}
use Rattle.std.proofs.lemmas.List.Sums.{sum_by-cons}
use Rattle.std.specs.Ordering.{is_eq}
use Rattle.smpl_terms.specs.declared.var.Var.{Var}
use Rattle.smpl_terms.specs.declared.value.Value.{Value}
use Rattle.smpl_patch.specs.declared.pattern.VarDecl.{VarDecl}
use Rattle.smpl_patch.specs.declared.witness.Witness.{Witness}
use Rattle.smpl_patch.specs.declared.witness.Witness.TheVariants.{Bind}
use Rattle.ctl_fixpoint.proofs.CtlHolds.TestLemmas.{or_cases, or_left, or_right}
use Rattle.wit_forest.specs.WitOrder.Same.{same_witness, same_forest}
use Rattle.wit_forest.specs.WitOrder.Sizes.{size, forest_size}
use Rattle.wit_forest.specs.WitOrder.Forests.{has, HaveSame, BeforeFirst, Rise}
use Rattle.wit_forest.proofs.WitOrder.ForestLaws.{one_list}
use Rattle.wit_forest.proofs.WitOrder.OrderLaws.{witness_order_total}
use Rattle.wit_forest.proofs.WitOrder.SameLaws.{is_eq-witness_order, witness-refl, witness-sym, witness-along}
use Rattle.wit_forest.proofs.WitOrder.WitnessLemmas.{size-Bind}
use Rattle.wit_forest.proofs.WitOrder.SizeLemmas.{size-along, forest_size-along}
use Rattle.wit_forest.specs.Gathered.{HasTooMany}

forest_size-cons : (w : Witness) (ws : List Witness) → forest_size (w ∷ ws) ≡ size w + forest_size ws
forest_size-cons w ws = sum_by-cons (λ (n : ℕ). n) (size w) (map size ws)

-- the list without its first tree that is the same
abbrev without : Witness → List Witness → List Witness
without v [] = []
without v (w ∷ ws) = cond (same_witness w v) ws (w ∷ without v ws)

not_first : (a b : Bool) → a ≡ false → (a || b) ≡ true → b ≡ true
not_first true b e h = absurd cc
not_first false b e h = h

-- the claim is known for the list after its first tree
size_by : (v w : Witness) (ws : List Witness) (b : Bool) → same_witness w v ≡ b → (has ws v ≡ true → forest_size ws ≡ size v + forest_size (without v ws))
    → has (w ∷ ws) v ≡ true → forest_size (w ∷ ws) ≡ size v + forest_size (cond b ws (w ∷ without v ws))
size_by v w ws true e rest h = let s = size-along w v e in let sums = forest_size-cons w ws in omega (arith, s, sums)
size_by v w ws false e rest h =
    let less = rest (not_first (same_witness w v) (has ws v) e h) in
    let more = forest_size-cons w (without v ws) in
    let sums = forest_size-cons w ws in
    omega (arith, less, more, sums)

size_without : (v : Witness) (ws : List Witness) → has ws v ≡ true → forest_size ws ≡ size v + forest_size (without v ws)
size_without v [] h = absurd cc
size_without v (w ∷ ws) h = size_by v w ws (same_witness w v) refl (size_without v ws) h

has_by : (v w : Witness) (ws : List Witness) (z : Witness) → same_witness v z ≡ false → (b : Bool) → same_witness w v ≡ b
    → (has ws z ≡ true → has (without v ws) z ≡ true) → has (w ∷ ws) z ≡ true → has (cond b ws (w ∷ without v ws)) z ≡ true
has_by v w ws z n true e rest h = not_first (same_witness w z) (has ws z) (witness-along w v e z ∙ n) h
has_by v w ws z n false e rest h = ⊎_elim
    (λ here. or_left (same_witness w z) _ here)
    (λ there. or_right (same_witness w z) _ (rest there))
    (or_cases (same_witness w z) _ h)

has_without : (v : Witness) (ws : List Witness) (z : Witness) → same_witness v z ≡ false → has ws z ≡ true → has (without v ws) z ≡ true
has_without v [] z n h = absurd cc
has_without v (w ∷ ws) z n h = has_by v w ws z n (same_witness w v) refl (has_without v ws z n) h

has-along : (us : List Witness) (v z : Witness) → same_witness v z ≡ true → has us v ≡ has us z
has-along [] v z h = refl
has-along (u ∷ us) v z h = λ i. (witness-sym u v ∙ witness-along v z h u ∙ witness-sym z u) i || has-along us v z h i

none_true : (b : Bool) → (b ≡ true → ⊥) → b ≡ false
none_true true h = absurd (h refl)
none_true false h = refl

module _ (decls : List VarDecl) where
  -- a tree before the first tree of an ascending list is not in the list
  misses : (w : Witness) (ws : List Witness) → BeforeFirst decls w ws → Rise decls ws → has ws w ≡ false
  misses w [] b r = refl
  misses w (u ∷ us) b r =
      let apart : same_witness u w ≡ false = witness-sym u w ∙ sym (is_eq-witness_order decls w u) ∙ ap is_eq b in
      (λ i. apart i || has us w) ∙ misses w us (later us r.0) r.1
    where
      later : (us : List Witness) → BeforeFirst decls u us → BeforeFirst decls w us
      later [] h = tt
      later (t ∷ ts) h = (witness_order_total decls).trans w u t b h

  -- distinct trees that are all in a list are together no larger than the list
  rise_within : (vs ws : List Witness) → Rise decls vs → ((z : Witness) → has vs z ≡ true → has ws z ≡ true) → forest_size vs ≤ forest_size ws
  rise_within [] ws r h = omega arith
  rise_within (v ∷ vs) ws r h =
      let less = size_without v ws (h v (ap (λ b. b || has vs v) (witness-refl v))) in
      let rest = rise_within vs (without v ws) r.1 (λ z k. has_without v ws z (apart z k) (h z (or_right (same_witness v z) _ k))) in
      let sums = forest_size-cons v vs in
      omega (arith, less, rest, sums)
    where
      apart : (z : Witness) → has vs z ≡ true → same_witness v z ≡ false
      apart z k = none_true (same_witness v z) (λ e.
          let clash : false ≡ true = sym (misses v vs r.0 r.1) ∙ has-along vs v z e ∙ k in
          absurd cc)

  pub large_forest : (ws : List Witness) → HasTooMany decls (has ws) → 1000000 < forest_size ws
  large_forest ws l = let le = rise_within l.0 ws l.1 l.2 in let lt = l.3 in omega (arith, le, lt)

  pub large_more : (test more : Witness → Bool) → ((z : Witness) → test z ≡ true → more z ≡ true) → HasTooMany decls test → HasTooMany decls more
  large_more test more h l = (l.0, l.1, λ z k. h z (l.2 z k), l.3)

  -- a single tree
  pub one_large : (test : Witness → Bool) (w : Witness) → ((z : Witness) → same_witness w z ≡ true → test z ≡ true) → 1000000 < size w
      → HasTooMany decls test
  one_large test w h l =
      let sums = forest_size-cons w [] in
      (w ∷ [], (tt, tt), λ z k. h z (only (same_witness w z) k), omega (arith, l, sums))
    where
      only : (b : Bool) → (b || false) ≡ true → b ≡ true
      only true k = refl
      only false k = k

  -- ascending trees are the one list of their forest
  pub one_forest : (trees found root : List Witness) → HaveSame trees found → Rise decls trees → Rise decls root → HaveSame found root
      → (same_forest trees root ≡ true) × (forest_size trees ≡ forest_size root)
  one_forest trees found root h r s k =
      let same = one_list decls trees root r s (λ z. h z ∙ k z) in (same, forest_size-along trees root same)

-- a tree over a large forest is large
pub large_bind : (n : ℕ) (x : Var) (v : Value) (ws : List Witness) → 1000000 < forest_size ws → 1000000 < size (Bind n x v ws)
large_bind n x v ws l = let s = size-Bind n x v ws in omega (arith, l, s)
