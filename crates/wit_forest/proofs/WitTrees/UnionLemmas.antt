-- Which trees unions have, and that unions are ascending.
use Rattle.std.proofs.Common.{◌≡◌, Bool, true, false, ◌||◌, refl, sym, ap, ◌∙◌, List, [], ◌∷◌}
use Rattle.std.specs.List.{list_any}
use Rattle.std.specs.declared.cmp.Ordering.{Ordering}
use Rattle.std.specs.declared.cmp.Ordering.TheVariants.{Less, Equal, Greater}
use Rattle.std.specs.Ordering.{is_eq, ordering_reverse}
use Rattle.smpl_patch.specs.declared.pattern.VarDecl.{VarDecl}
use Rattle.smpl_patch.specs.declared.witness.Witness.{Witness}
use Rattle.wit_forest.specs.WitOrder.Same.{same_witness}
use Rattle.wit_forest.specs.WitOrder.Order.{witness_order}
use Rattle.wit_forest.specs.WitOrder.Forests.{has, BeforeFirst, Rise}
use Rattle.wit_forest.proofs.WitOrder.OrderLaws.{witness_order_total}
use Rattle.wit_forest.proofs.WitOrder.SameLaws.{is_eq-witness_order, witness-along}
use Rattle.wit_forest.specs.WitTrees.Unions.{placed, put, union, union_of}

swapped : (a b c : Bool) → (a || (b || c)) ≡ (b || (a || c))
swapped true true c = refl
swapped true false c = refl
swapped false b c = refl

once : (a b c : Bool) → a ≡ b → (a || c) ≡ (b || (a || c))
once true true c h = refl
once true false c h = absurd cc
once false true c h = absurd cc
once false false c h = refl

or-assoc : (a b c : Bool) → ((a || b) || c) ≡ (a || (b || c))
or-assoc true b c = refl
or-assoc false b c = refl

module _ (decls : List VarDecl) where
  placed_has : (o : Ordering) (w u : Witness) (us more : List Witness) (z : Witness) → witness_order decls w u ≡ o
      → has more z ≡ (same_witness w z || has us z) → has (placed o w u us more) z ≡ (same_witness w z || (same_witness u z || has us z))
  placed_has Less w u us more z e h = refl
  placed_has Equal w u us more z e h =
      let alike : same_witness w u ≡ true = sym (is_eq-witness_order decls w u) ∙ ap is_eq e in
      once (same_witness u z) (same_witness w z) (has us z) (sym (witness-along w u alike z))
  placed_has Greater w u us more z e h =
      ap (λ b. same_witness u z || b) h ∙ swapped (same_witness u z) (same_witness w z) (has us z)

  pub has-put : (w : Witness) (us : List Witness) (z : Witness) → has (put decls w us) z ≡ (same_witness w z || has us z)
  has-put w [] z = refl
  has-put w (u ∷ us) z = placed_has (witness_order decls w u) w u us (put decls w us) z refl (has-put w us z)

  pub has-union : (vs ws : List Witness) (z : Witness) → has (union decls vs ws) z ≡ (has vs z || has ws z)
  has-union [] ws z = refl
  has-union (v ∷ vs) ws z =
      has-put v (union decls vs ws) z ∙ ap (λ b. same_witness v z || b) (has-union vs ws z)
      ∙ sym (or-assoc (same_witness v z) (has vs z) (has ws z))

  pub has-union_of : (fs : List (List Witness)) (z : Witness) → has (union_of decls fs) z ≡ list_any (λ ws. has ws z) fs
  has-union_of [] z = refl
  has-union_of (ws ∷ more) z = has-union ws (union_of decls more) z ∙ ap (λ b. has ws z || b) (has-union_of more z)

  -- ---- they are ascending

  placed_first : (o : Ordering) (v w u : Witness) (us more : List Witness) → witness_order decls v w ≡ Less → witness_order decls v u ≡ Less
      → BeforeFirst decls v (placed o w u us more)
  placed_first Less v w u us more h k = h
  placed_first Equal v w u us more h k = k
  placed_first Greater v w u us more h k = k

  put_first : (v w : Witness) (us : List Witness) → witness_order decls v w ≡ Less → BeforeFirst decls v us → BeforeFirst decls v (put decls w us)
  put_first v w [] h b = h
  put_first v w (u ∷ us) h b = placed_first (witness_order decls w u) v w u us (put decls w us) h b

  placed_rise : (o : Ordering) (w u : Witness) (us : List Witness) → witness_order decls w u ≡ o → BeforeFirst decls u us → Rise decls us
      → Rise decls (put decls w us) → Rise decls (placed o w u us (put decls w us))
  placed_rise Less w u us e b r s = (e, (b, r))
  placed_rise Equal w u us e b r s = (b, r)
  placed_rise Greater w u us e b r s =
      let turned : witness_order decls u w ≡ Less = (witness_order_total decls).antisymm u w ∙ ap ordering_reverse e in
      (put_first u w us turned b, s)

  pub Rise-put : (w : Witness) (us : List Witness) → Rise decls us → Rise decls (put decls w us)
  Rise-put w [] r = (tt, tt)
  Rise-put w (u ∷ us) r = placed_rise (witness_order decls w u) w u us refl r.0 r.1 (Rise-put w us r.1)

  pub Rise-union : (vs ws : List Witness) → Rise decls ws → Rise decls (union decls vs ws)
  Rise-union [] ws r = r
  Rise-union (v ∷ vs) ws r = Rise-put v (union decls vs ws) (Rise-union vs ws r)

  pub Rise-union_of : (fs : List (List Witness)) → Rise decls (union_of decls fs)
  Rise-union_of [] = tt
  Rise-union_of (ws ∷ more) = Rise-union ws (union_of decls more) (Rise-union_of more)
