-- `witness_order` is a total order.
use Rattle.std.proofs.Common.{◌≡◌, ℕ, refl, sym, ap, ◌∙◌, List, [], ◌∷◌}
use Rattle.std.specs.Cmp.{IsTotalOrder, nat_cmp_total}
use Rattle.std.proofs.lemmas.Cmp.{nat_list_cmp_total}
use Rattle.std.specs.declared.cmp.Ordering.{Ordering}
use Rattle.std.specs.declared.cmp.Ordering.TheVariants.{Less, Greater}
use Rattle.std.specs.Ordering.{nat_cmp, ordering_reverse}
use Rattle.std.specs.Cmp.Lexicographic.{slice_cmp}
use Rattle.smpl_terms.specs.declared.var.Var.{Var}
use Rattle.smpl_terms.specs.Vars.{var_order}
use Rattle.smpl_terms.specs.Values.{value_order}
use Rattle.smpl_terms.proofs.VarLaws.{var_order_total}
use Rattle.smpl_terms.proofs.ValueLaws.{value_order_total}
use Rattle.smpl_patch.specs.declared.pattern.VarDecl.{VarDecl}
use Rattle.smpl_patch.specs.declared.witness.Witness.{Witness}
use Rattle.smpl_patch.specs.declared.witness.Witness.TheVariants.{Touch, Bind}
use Rattle.wit_forest.specs.WitOrder.Order.{witness_order, declared_order, rank}
use Rattle.wit_forest.proofs.WitOrder.Induct.{Each, witness_induction, witness_cases}
use Rattle.wit_forest.proofs.WitOrder.WitnessLemmas.{order-Touch-Touch, order-Touch-Bind, order-Bind-Touch, order-Bind-Bind}
use Rattle.wit_forest.proofs.WitOrder.StepLemmas.{Follow, follow_of, follow_then, reverse_then}

module _ (decls : List VarDecl) where
  abbrev R : Witness → Witness → Ordering
  R = witness_order decls

  -- ---- reversed arguments

  abbrev Turns : Witness → Type 0
  Turns w = (u : Witness) → R w u ≡ ordering_reverse (R u w)

  declared_turns : (x y : Var) → declared_order decls x y ≡ ordering_reverse (declared_order decls y x)
  declared_turns x y = reverse_then _ _ _ _ (nat_cmp_total.antisymm (rank decls x) (rank decls y)) (var_order_total.antisymm x y)

  lists_turn : (ws us : List Witness) → Each Turns ws → slice_cmp R ws us ≡ ordering_reverse (slice_cmp R us ws)
  lists_turn [] [] e = refl
  lists_turn [] (u ∷ us) e = refl
  lists_turn (w ∷ ws) [] e = refl
  lists_turn (w ∷ ws) (u ∷ us) e = reverse_then (R w u) (R u w) _ _ (e.0 u) (lists_turn ws us e.1)

  turns : (w : Witness) → Turns w
  turns = witness_induction Turns
      (λ n a p. witness_cases (λ u. R (Touch n a p) u ≡ ordering_reverse (R u (Touch n a p)))
      (λ m b q. order-Touch-Touch decls n a p m b q
      ∙ reverse_then _ _ _ _ (nat_cmp_total.antisymm n m) (reverse_then _ _ _ _ (nat_cmp_total.antisymm a b) (nat_list_cmp_total.antisymm p q))
      ∙ ap ordering_reverse (sym (order-Touch-Touch decls m b q n a p)))
      (λ m y u us. order-Touch-Bind decls n a p m y u us
      ∙ reverse_then (nat_cmp n m) (nat_cmp m n) Less Greater (nat_cmp_total.antisymm n m) refl
      ∙ ap ordering_reverse (sym (order-Bind-Touch decls m y u us n a p))))
      (λ n x v vs e. witness_cases (λ u. R (Bind n x v vs) u ≡ ordering_reverse (R u (Bind n x v vs)))
      (λ m b q. order-Bind-Touch decls n x v vs m b q
      ∙ reverse_then (nat_cmp n m) (nat_cmp m n) Greater Less (nat_cmp_total.antisymm n m) refl
      ∙ ap ordering_reverse (sym (order-Touch-Bind decls m b q n x v vs)))
      (λ m y u us. order-Bind-Bind decls n x v vs m y u us
      ∙ reverse_then _ _ _ _ (nat_cmp_total.antisymm n m)
      (reverse_then _ _ _ _ (declared_turns x y) (reverse_then _ _ _ _ (value_order_total.antisymm v u) (lists_turn vs us e)))
      ∙ ap ordering_reverse (sym (order-Bind-Bind decls m y u us n x v vs))))

  -- ---- three trees

  nats : (a b c : ℕ) → Follow (nat_cmp a b) (nat_cmp b c) (nat_cmp a c)
  nats = follow_of nat_cmp nat_cmp_total

  declared_follow : (x y z : Var) → Follow (declared_order decls x y) (declared_order decls y z) (declared_order decls x z)
  declared_follow x y z = follow_then _ _ _ _ _ _ (nats (rank decls x) (rank decls y) (rank decls z)) (follow_of var_order var_order_total x y z)

  abbrev Follows : Witness → Type 0
  Follows w = (u t : Witness) → Follow (R w u) (R u t) (R w t)

  lists_follow : (ws us ts : List Witness) → Each Follows ws → Follow (slice_cmp R ws us) (slice_cmp R us ts) (slice_cmp R ws ts)
  lists_follow [] [] [] e = record { rise = λ h k. h; end = λ h k. h; same = λ h. refl }
  lists_follow [] [] (t ∷ ts) e = record { rise = λ h k. refl; end = λ h k. refl; same = λ h. refl }
  lists_follow [] (u ∷ us) [] e = record { rise = λ h k. absurd cc; end = λ h k. absurd cc; same = λ h. absurd cc }
  lists_follow [] (u ∷ us) (t ∷ ts) e = record { rise = λ h k. refl; end = λ h k. refl; same = λ h. absurd cc }
  lists_follow (w ∷ ws) [] ts e = record { rise = λ h k. absurd cc; end = λ h k. absurd cc; same = λ h. absurd cc }
  lists_follow (w ∷ ws) (u ∷ us) [] e = record { rise = λ h k. absurd cc; end = λ h k. absurd cc; same = λ h. refl }
  lists_follow (w ∷ ws) (u ∷ us) (t ∷ ts) e = follow_then _ _ _ _ _ _ (e.0 u t) (lists_follow ws us ts e.1)

  along : (a b c d e f : Ordering) → a ≡ d → b ≡ e → c ≡ f → Follow d e f → Follow a b c
  along a b c d e f h k l s = record {
    rise = λ p q. l ∙ s.rise (sym h ∙ p) (sym k ∙ q);
    end = λ p q. l ∙ s.end (sym h ∙ p) (sym k ∙ q);
    same = λ p. l ∙ s.same (sym h ∙ p) ∙ sym k;
  }

  up_down : (c : Ordering) → Follow Less Greater c
  up_down c = record { rise = λ h k. absurd cc; end = λ h k. absurd cc; same = λ h. absurd cc }

  down : (b c : Ordering) → Follow Greater b c
  down b c = record { rise = λ h k. absurd cc; end = λ h k. absurd cc; same = λ h. absurd cc }

  -- the remaining cases: two touches before a bind, a touch before two binds, two binds after a touch
  behind : (a : Ordering) → Follow a Less Less
  behind a = record { rise = λ h k. refl; end = λ h k. refl; same = λ h. refl }

  before : (b : Ordering) → Follow Less b Less
  before b = record { rise = λ h k. refl; end = λ h k. refl; same = λ h. absurd cc }

  last : (a : Ordering) → Follow a Greater Greater
  last a = record { rise = λ h k. absurd cc; end = λ h k. absurd cc; same = λ h. refl }

  follows : (w : Witness) → Follows w
  follows = witness_induction Follows
      (λ n a p. witness_cases (λ u. (t : Witness) → Follow (R (Touch n a p) u) (R u t) (R (Touch n a p) t))
      (λ m b q. witness_cases (λ t. Follow (R (Touch n a p) (Touch m b q)) (R (Touch m b q) t) (R (Touch n a p) t))
      (λ l c r. along _ _ _ _ _ _ (order-Touch-Touch decls n a p m b q) (order-Touch-Touch decls m b q l c r) (order-Touch-Touch decls n a p l c r)
      (follow_then _ _ _ _ _ _ (nats n m l) (follow_then _ _ _ _ _ _ (nats a b c) (follow_of (slice_cmp nat_cmp) nat_list_cmp_total p q r))))
      (λ l z d ds. along _ _ _ _ _ _ (order-Touch-Touch decls n a p m b q) (order-Touch-Bind decls m b q l z d ds) (order-Touch-Bind decls n a p l z d ds)
      (follow_then _ _ _ _ _ _ (nats n m l) (behind _))))
      (λ m y u us. witness_cases (λ t. Follow (R (Touch n a p) (Bind m y u us)) (R (Bind m y u us) t) (R (Touch n a p) t))
      (λ l c r. along _ _ _ _ _ _ (order-Touch-Bind decls n a p m y u us) (order-Bind-Touch decls m y u us l c r) (order-Touch-Touch decls n a p l c r)
      (follow_then _ _ _ _ _ _ (nats n m l) (up_down _)))
      (λ l z d ds. along _ _ _ _ _ _ (order-Touch-Bind decls n a p m y u us) (order-Bind-Bind decls m y u us l z d ds) (order-Touch-Bind decls n a p l z d ds)
      (follow_then _ _ _ _ _ _ (nats n m l) (before _)))))
      (λ n x v vs e. witness_cases (λ u. (t : Witness) → Follow (R (Bind n x v vs) u) (R u t) (R (Bind n x v vs) t))
      (λ m b q. witness_cases (λ t. Follow (R (Bind n x v vs) (Touch m b q)) (R (Touch m b q) t) (R (Bind n x v vs) t))
      (λ l c r. along _ _ _ _ _ _ (order-Bind-Touch decls n x v vs m b q) (order-Touch-Touch decls m b q l c r) (order-Bind-Touch decls n x v vs l c r)
      (follow_then _ _ _ _ _ _ (nats n m l) (down _ _)))
      (λ l z d ds. along _ _ _ _ _ _ (order-Bind-Touch decls n x v vs m b q) (order-Touch-Bind decls m b q l z d ds) (order-Bind-Bind decls n x v vs l z d ds)
      (follow_then _ _ _ _ _ _ (nats n m l) (down _ _))))
      (λ m y u us. witness_cases (λ t. Follow (R (Bind n x v vs) (Bind m y u us)) (R (Bind m y u us) t) (R (Bind n x v vs) t))
      (λ l c r. along _ _ _ _ _ _ (order-Bind-Bind decls n x v vs m y u us) (order-Bind-Touch decls m y u us l c r) (order-Bind-Touch decls n x v vs l c r)
      (follow_then _ _ _ _ _ _ (nats n m l) (last _)))
      (λ l z d ds. along _ _ _ _ _ _ (order-Bind-Bind decls n x v vs m y u us) (order-Bind-Bind decls m y u us l z d ds)
      (order-Bind-Bind decls n x v vs l z d ds)
      (follow_then _ _ _ _ _ _ (nats n m l) (follow_then _ _ _ _ _ _ (declared_follow x y z)
      (follow_then _ _ _ _ _ _ (follow_of value_order value_order_total v u d) (lists_follow vs us ds e)))))))

  pub witness_order_total : IsTotalOrder (witness_order decls)
  witness_order_total = record {
    antisymm = turns;
    trans = λ w u t. (follows w u t).rise;
    congr = λ w u t. (follows w u t).same;
  }
