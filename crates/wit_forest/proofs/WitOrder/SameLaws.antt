-- Trees are equal in the order exactly if they are the same.
use Rattle.std.proofs.Common.{◌≡◌, ℕ, eqb, refl, sym, ap, ◌∙◌, Bool, true, false, ◌&&◌, arith, List, [], ◌∷◌}
use Rattle.std.proofs.lemmas.Bool.Decides.{nat_tests}
use Rattle.std.proofs.lemmas.Grind.{common_steps}
use Rattle.std.specs.declared.cmp.Ordering.{Ordering}
use Rattle.std.specs.declared.cmp.Ordering.TheVariants.{Less, Equal, Greater}
use Rattle.std.specs.Ordering.{nat_cmp, ordering_reverse, is_eq}
use Rattle.std.specs.Cmp.Lexicographic.{slice_cmp}
use Rattle.c_terms.specs.Same.{same_bytes}
use Rattle.smpl_terms.specs.declared.var.Var.{Var}
use Rattle.smpl_terms.specs.declared.value.Value.{Value}
use Rattle.smpl_terms.specs.Vars.{same_var, var_order}
use Rattle.smpl_terms.specs.Values.{value_order}
use Rattle.smpl_terms.proofs.VarLaws.{same_var-equal}
use Rattle.smpl_terms.proofs.ValueLaws.{is_eq-value_order}
use Rattle.smpl_patch.specs.declared.pattern.VarDecl.{VarDecl}
use Rattle.smpl_patch.specs.declared.witness.Witness.{Witness}
use Rattle.smpl_patch.specs.declared.witness.Witness.TheVariants.{Touch, Bind}
use Rattle.wit_forest.specs.WitOrder.Same.{same_witness, same_forest}
use Rattle.wit_forest.specs.WitOrder.Order.{witness_order, declared_order, rank}
use Rattle.wit_forest.proofs.WitOrder.Induct.{Each, witness_induction, witness_cases}
use Rattle.wit_forest.proofs.WitOrder.WitnessLemmas.{order-Touch-Touch, order-Touch-Bind, order-Bind-Touch, order-Bind-Bind}
use Rattle.wit_forest.proofs.WitOrder.WitnessLemmas.{same-Touch-Touch, same-Touch-Bind, same-Bind-Touch, same-Bind-Bind}
use Rattle.wit_forest.proofs.WitOrder.StepLemmas.{is_eq-then}
use Rattle.wit_forest.proofs.WitOrder.OrderLaws.{witness_order_total}

is_eq-nat : (m n : ℕ) → is_eq (nat_cmp m n) ≡ eqb m n
is_eq-nat m n = grind (arith, nat_tests)

is_eq-bytes : (xs ys : List ℕ) → is_eq (slice_cmp nat_cmp xs ys) ≡ same_bytes xs ys
is_eq-bytes [] [] = refl
is_eq-bytes [] (y ∷ ys) = refl
is_eq-bytes (x ∷ xs) [] = refl
is_eq-bytes (x ∷ xs) (y ∷ ys) = is_eq-then (nat_cmp x y) (slice_cmp nat_cmp xs ys) ∙ (λ i. is_eq-nat x y i && is_eq-bytes xs ys i)

is_eq-var : (x y : Var) → is_eq (var_order x y) ≡ same_var x y
is_eq-var x y =
    is_eq-then (nat_cmp x.rule y.rule) (slice_cmp nat_cmp x.name y.name) ∙ (λ i. is_eq-nat x.rule y.rule i && is_eq-bytes x.name y.name i)

nat-itself : (n : ℕ) → is_eq (nat_cmp n n) ≡ true
nat-itself n = grind (arith, nat_tests)

module _ (decls : List VarDecl) where
  by_rank : (a : Bool) (x y : Var) → same_var x y ≡ a → (is_eq (nat_cmp (rank decls x) (rank decls y)) && same_var x y) ≡ a
  by_rank true x y h =
      let here = ap (λ z. is_eq (nat_cmp (rank decls x) (rank decls z))) (sym (same_var-equal x y h)) ∙ nat-itself (rank decls x) in
      λ i. here i && h i
  by_rank false x y h = grind (arith, common_steps)

  is_eq-declared : (x y : Var) → is_eq (declared_order decls x y) ≡ same_var x y
  is_eq-declared x y =
      is_eq-then (nat_cmp (rank decls x) (rank decls y)) (var_order x y)
      ∙ ap (λ b. is_eq (nat_cmp (rank decls x) (rank decls y)) && b) (is_eq-var x y) ∙ by_rank (same_var x y) x y refl

  abbrev Tied : Witness → Type 0
  Tied w = (u : Witness) → is_eq (witness_order decls w u) ≡ same_witness w u

  lists_tied : (ws us : List Witness) → Each Tied ws → is_eq (slice_cmp (witness_order decls) ws us) ≡ same_forest ws us
  lists_tied [] [] e = refl
  lists_tied [] (u ∷ us) e = refl
  lists_tied (w ∷ ws) [] e = refl
  lists_tied (w ∷ ws) (u ∷ us) e =
      is_eq-then (witness_order decls w u) (slice_cmp (witness_order decls) ws us) ∙ (λ i. e.0 u i && lists_tied ws us e.1 i)

  and-false : (b : Bool) → (b && false) ≡ false
  and-false true = refl
  and-false false = refl

  touches_tied : (n a : ℕ) (p : List ℕ) (m b : ℕ) (q : List ℕ)
      → is_eq (witness_order decls (Touch n a p) (Touch m b q)) ≡ same_witness (Touch n a p) (Touch m b q)
  touches_tied n a p m b q =
      ap is_eq (order-Touch-Touch decls n a p m b q)
      ∙ is_eq-then (nat_cmp n m) _
      ∙ (λ i. is_eq-nat n m i && (is_eq-then (nat_cmp a b) (slice_cmp nat_cmp p q) ∙ (λ j. is_eq-nat a b j && is_eq-bytes p q j)) i)
      ∙ sym (same-Touch-Touch n a p m b q)

  binds_tied : (n : ℕ) (x : Var) (v : Value) (vs : List Witness) → Each Tied vs → (m : ℕ) (y : Var) (u : Value) (us : List Witness)
      → is_eq (witness_order decls (Bind n x v vs) (Bind m y u us)) ≡ same_witness (Bind n x v vs) (Bind m y u us)
  binds_tied n x v vs e m y u us =
      let inner = is_eq-then (value_order v u) (slice_cmp (witness_order decls) vs us) ∙ (λ i. is_eq-value_order v u i && lists_tied vs us e i) in
      let middle = is_eq-then (declared_order decls x y) _ ∙ (λ i. is_eq-declared x y i && inner i) in
      ap is_eq (order-Bind-Bind decls n x v vs m y u us) ∙ is_eq-then (nat_cmp n m) _ ∙ (λ i. is_eq-nat n m i && middle i)
      ∙ sym (same-Bind-Bind n x v vs m y u us)

  pub is_eq-witness_order : (w u : Witness) → is_eq (witness_order decls w u) ≡ same_witness w u
  is_eq-witness_order = witness_induction Tied
      (λ n a p. witness_cases (λ u. is_eq (witness_order decls (Touch n a p) u) ≡ same_witness (Touch n a p) u)
      (touches_tied n a p)
      (λ m y u us. ap is_eq (order-Touch-Bind decls n a p m y u us) ∙ is_eq-then (nat_cmp n m) Less ∙ and-false (is_eq (nat_cmp n m))
      ∙ sym (same-Touch-Bind n a p m y u us)))
      (λ n x v vs e. witness_cases (λ u. is_eq (witness_order decls (Bind n x v vs) u) ≡ same_witness (Bind n x v vs) u)
      (λ m b q. ap is_eq (order-Bind-Touch decls n x v vs m b q) ∙ is_eq-then (nat_cmp n m) Greater ∙ and-false (is_eq (nat_cmp n m))
      ∙ sym (same-Bind-Touch n x v vs m b q))
      (binds_tied n x v vs e))

equal-is : (o : Ordering) → is_eq o ≡ true → o ≡ Equal
equal-is Less h = absurd cc
equal-is Equal h = refl
equal-is Greater h = absurd cc

abbrev R : Witness → Witness → Ordering
R = witness_order []

-- `same_witness` is an equivalence
pub equal_at : (decls : List VarDecl) (v w : Witness) → same_witness v w ≡ true → witness_order decls v w ≡ Equal
equal_at decls v w h = equal-is (witness_order decls v w) (is_eq-witness_order decls v w ∙ h)

pub witness-along : (v w : Witness) → same_witness v w ≡ true → (z : Witness) → same_witness v z ≡ same_witness w z
witness-along v w h z =
    sym (is_eq-witness_order [] v z) ∙ ap is_eq ((witness_order_total []).congr v w z (equal_at [] v w h)) ∙ is_eq-witness_order [] w z

pub witness-refl : (w : Witness) → same_witness w w ≡ true
witness-refl w = sym (is_eq-witness_order [] w w) ∙ itself (R w w) ((witness_order_total []).antisymm w w)
  where
    itself : (o : Ordering) → o ≡ ordering_reverse o → is_eq o ≡ true
    itself Less h = absurd cc
    itself Equal h = refl
    itself Greater h = absurd cc

pub witness-sym : (v w : Witness) → same_witness v w ≡ same_witness w v
witness-sym v w = sym (is_eq-witness_order [] v w) ∙ turn (R v w) (R w v) ((witness_order_total []).antisymm v w) ∙ is_eq-witness_order [] w v
  where
    turn : (o p : Ordering) → o ≡ ordering_reverse p → is_eq o ≡ is_eq p
    turn o Less h = ap is_eq h
    turn o Equal h = ap is_eq h
    turn o Greater h = ap is_eq h
