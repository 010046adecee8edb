-- A forest has one list of its trees.
use Rattle.std.proofs.Common.{◌≡◌, ◌⊎◌, inl, inr, refl, sym, ap, ◌∙◌, Bool, true, false, ◌||◌, List, [], ◌∷◌}
use Rattle.std.specs.declared.cmp.Ordering.{Ordering}
use Rattle.std.specs.declared.cmp.Ordering.TheVariants.{Less, Equal, Greater}
use Rattle.std.specs.Ordering.{ordering_reverse, is_eq}
use Rattle.smpl_patch.specs.declared.pattern.VarDecl.{VarDecl}
use Rattle.smpl_patch.specs.declared.witness.Witness.{Witness}
use Rattle.wit_forest.specs.WitOrder.Same.{same_witness, same_forest}
use Rattle.wit_forest.specs.WitOrder.Order.{witness_order}
use Rattle.wit_forest.specs.WitOrder.Forests.{has, BeforeFirst, Rise, HaveSame}
use Rattle.wit_forest.proofs.WitOrder.OrderLaws.{witness_order_total}
use Rattle.wit_forest.proofs.WitOrder.SameLaws.{is_eq-witness_order, witness-refl, witness-sym, witness-along, equal_at}
use Rattle.wit_forest.proofs.WitOrder.RiseLemmas.{both_hold}

module _ (decls : List VarDecl) where
  abbrev R : Witness → Witness → Ordering
  R = witness_order decls

  -- a tree before the first tree of an ascending list is not in the list
  misses : (w : Witness) (ws : List Witness) → BeforeFirst decls w ws → Rise decls ws → has ws w ≡ false
  misses w [] b r = refl
  misses w (u ∷ us) b r =
      let apart : same_witness u w ≡ false = witness-sym u w ∙ sym (is_eq-witness_order decls w u) ∙ ap is_eq b in
      (λ i. apart i || has us w) ∙ misses w us (later us r.0) r.1
    where
      later : (us : List Witness) → BeforeFirst decls u us → BeforeFirst decls w us
      later [] h = tt
      later (t ∷ ts) h = (witness_order_total decls).trans w u t b h

  -- the first of a forest is before, or the same as, each tree that the forest has
  abbrev AtMost : Ordering → Type 0
  AtMost o = (o ≡ Less) ⊎ (o ≡ Equal)

  equal_to : (o : Ordering) → is_eq o ≡ true → o ≡ Equal
  equal_to Less h = absurd cc
  equal_to Equal h = refl
  equal_to Greater h = absurd cc

  or_split : (a b : Bool) → (a || b) ≡ true → (a ≡ true) ⊎ (b ≡ true)
  or_split true b h = inl refl
  or_split false b h = inr h

  first_least : (v : Witness) (vs : List Witness) → BeforeFirst decls v vs → Rise decls vs → (z : Witness) → has (v ∷ vs) z ≡ true → AtMost (R v z)
  first_least v [] b r z h = elim (or_split (same_witness v z) false h) as (λ _. AtMost (R v z)) [
    | inl k ↦ inr (equal_at decls v z k)
    | inr k ↦ absurd cc
  ]
  first_least v (u ∷ us) b r z h = elim (or_split (same_witness v z) (has (u ∷ us) z) h) as (λ _. AtMost (R v z)) [
    | inl k ↦ inr (equal_at decls v z k)
    | inr k ↦ further (first_least u us r.0 r.1 z k)
  ]
    where
      further : AtMost (R u z) → AtMost (R v z)
      further (inl l) = inl ((witness_order_total decls).trans v u z b l)
      further (inr e) = inl (
          let back : R z u ≡ Equal = (witness_order_total decls).antisymm z u ∙ ap ordering_reverse e in
          let left : R z v ≡ R u v = (witness_order_total decls).congr z u v back in
          let turned : R u v ≡ Greater = (witness_order_total decls).antisymm u v ∙ ap ordering_reverse b in
          (witness_order_total decls).antisymm v z ∙ ap ordering_reverse (left ∙ turned))

  both_ways : (v w : Witness) → AtMost (R v w) → AtMost (R w v) → same_witness v w ≡ true
  both_ways v w (inr e) k = sym (is_eq-witness_order decls v w) ∙ ap is_eq e
  both_ways v w (inl l) (inr e) = witness-sym v w ∙ sym (is_eq-witness_order decls w v) ∙ ap is_eq e
  both_ways v w (inl l) (inl k) =
      let clash : ◌≡◌ {A = Ordering} Less Greater = sym k ∙ (witness_order_total decls).antisymm w v ∙ ap ordering_reverse l in
      absurd cc

  here : (v : Witness) (vs : List Witness) → has (v ∷ vs) v ≡ true
  here v vs = ap (λ b. b || has vs v) (witness-refl v)

  -- the trees after the first
  drop_first : (a b c d z : Bool) → (a || b) ≡ (c || d) → a ≡ c → (a ≡ true → b ≡ false) → (c ≡ true → d ≡ false) → b ≡ d
  drop_first true b true d z h e f g = f refl ∙ sym (g refl)
  drop_first true b false d z h e f g = absurd cc
  drop_first false b true d z h e f g = absurd cc
  drop_first false b false d z h e f g = h

  missed : (v : Witness) (vs : List Witness) → BeforeFirst decls v vs → Rise decls vs → (z : Witness) → same_witness v z ≡ true → has vs z ≡ false
  missed v vs b r z h = sym (has-along vs v z h) ∙ misses v vs b r
    where
      has-along : (us : List Witness) (v z : Witness) → same_witness v z ≡ true → has us v ≡ has us z
      has-along [] v z h = refl
      has-along (u ∷ us) v z h =
          λ i. (witness-sym u v ∙ witness-along v z h u ∙ witness-sym z u) i || has-along us v z h i

  pub one_list : (vs ws : List Witness) → Rise decls vs → Rise decls ws → HaveSame vs ws → same_forest vs ws ≡ true
  one_list [] [] r s h = refl
  one_list [] (w ∷ ws) r s h = let e : false ≡ true = h w ∙ here w ws in absurd cc
  one_list (v ∷ vs) [] r s h = let e : true ≡ false = sym (here v vs) ∙ h v in absurd cc
  one_list (v ∷ vs) (w ∷ ws) r s h =
      let first : same_witness v w ≡ true =
      both_ways v w (first_least v vs r.0 r.1 w (h w ∙ here w ws)) (first_least w ws s.0 s.1 v (sym (h v) ∙ here v vs)) in
      both_hold first (one_list vs ws r.1 s.1
      (λ z. drop_first (same_witness v z) (has vs z) (same_witness w z) (has ws z) true (h z) (witness-along v w first z)
      (missed v vs r.0 r.1 z) (missed w ws s.0 s.1 z)))
