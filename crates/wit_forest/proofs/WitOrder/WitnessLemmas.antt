-- The equations of `witness_order`, of `same_witness` and of `size`.
use Rattle.std.proofs.Common.{◌≡◌, ℕ, ◌+◌, Bool, true, false, ◌&&◌, eqb, refl, sym, ap, ◌∙◌, List, [], ◌∷◌, map}
use Rattle.std.specs.declared.cmp.Ordering.{Ordering}
use Rattle.std.specs.declared.cmp.Ordering.TheVariants.{Less, Equal, Greater}
use Rattle.std.specs.Ordering.{nat_cmp, ordering_then}
use Rattle.std.specs.Cmp.Lexicographic.{slice_cmp}
use Rattle.c_terms.specs.Same.{same_bytes}
use Rattle.c_terms.proofs.OrderLemmas.{slice_cmp-map}
use Rattle.smpl_terms.specs.declared.var.Var.{Var}
use Rattle.smpl_terms.specs.Vars.{same_var}
use Rattle.smpl_terms.specs.declared.value.Value.{Value}
use Rattle.smpl_terms.specs.Values.{same, value_order}
use Rattle.smpl_patch.specs.declared.pattern.VarDecl.{VarDecl}
use Rattle.smpl_patch.specs.declared.witness.Witness.{Witness, out-Witness}
use Rattle.smpl_patch.specs.declared.witness.Witness.TheOpen.{Witness-F}
use Rattle.smpl_patch.specs.declared.witness.Witness.TheViews.{out-roll-Witness}
use Rattle.smpl_patch.specs.declared.witness.Witness.TheVariants.{Touch, Bind, rolls-Touch, rolls-Bind}
use Rattle.smpl_patch.specs.declared.witness.Witness.TheFolds.{fold-roll-Witness}
use Rattle.wit_forest.specs.WitOrder.Same.{same_witness, same_forest, same_step, same_at, all_pass}
use Rattle.wit_forest.specs.WitOrder.Order.{witness_order, order_step, order_at, declared_order}
use Rattle.wit_forest.specs.WitOrder.Sizes.{size, size_step, forest_size}

pub out-Touch : (n a : ℕ) (p : List ℕ) → out-Witness (Touch n a p) ≡ Witness-F.Touch n a p
out-Touch n a p = ap out-Witness (sym (rolls-Touch n a p)) ∙ out-roll-Witness _

pub out-Bind : (n : ℕ) (x : Var) (v : Value) (ws : List Witness) → out-Witness (Bind n x v ws) ≡ Witness-F.Bind n x v ws
out-Bind n x v ws = ap out-Witness (sym (rolls-Bind n x v ws)) ∙ out-roll-Witness _

-- ---- same

pub all_pass-map : {A B : Type 0} (f : A → B → Bool) (test : List A → List B → Bool) → test [] [] ≡ true → ((y : B) (ys : List B) → test [] (y ∷ ys) ≡ false)
    → ((x : A) (xs : List A) → test (x ∷ xs) [] ≡ false) → ((x : A) (xs : List A) (y : B) (ys : List B) → test (x ∷ xs) (y ∷ ys) ≡ (f x y && test xs ys))
    → (xs : List A) (ys : List B) → all_pass (map f xs) ys ≡ test xs ys
all_pass-map f test a b c d [] [] = sym a
all_pass-map f test a b c d [] (y ∷ ys) = sym (b y ys)
all_pass-map f test a b c d (x ∷ xs) [] = sym (c x xs)
all_pass-map f test a b c d (x ∷ xs) (y ∷ ys) = ap (λ r. f x y && r) (all_pass-map f test a b c d xs ys) ∙ sym (d x xs y ys)

all_pass-forest : (vs ws : List Witness) → all_pass (map same_witness vs) ws ≡ same_forest vs ws
all_pass-forest = all_pass-map same_witness same_forest refl (λ y ys. refl) (λ x xs. refl) (λ x xs y ys. refl)

same_touch : (n a : ℕ) (p : List ℕ) (w : Witness) → same_witness (Touch n a p) w ≡ same_at (Witness-F.Touch n a p) (out-Witness w)
same_touch n a p w = ap (λ t. same_witness t w) (sym (rolls-Touch n a p)) ∙ ap (λ f. f w) (fold-roll-Witness (Witness → Bool) same_step _)

same_bind : (n : ℕ) (x : Var) (v : Value) (vs : List Witness) (w : Witness)
    → same_witness (Bind n x v vs) w ≡ same_at (Witness-F.Bind n x v (map same_witness vs)) (out-Witness w)
same_bind n x v vs w =
    ap (λ t. same_witness t w) (sym (rolls-Bind n x v vs)) ∙ ap (λ f. f w) (fold-roll-Witness (Witness → Bool) same_step _)

pub same-Touch-Touch : (n a : ℕ) (p : List ℕ) (m b : ℕ) (q : List ℕ)
    → same_witness (Touch n a p) (Touch m b q) ≡ (eqb n m && (eqb a b && same_bytes p q))
same-Touch-Touch n a p m b q = same_touch n a p (Touch m b q) ∙ ap (same_at (Witness-F.Touch n a p)) (out-Touch m b q)

pub same-Touch-Bind : (n a : ℕ) (p : List ℕ) (m : ℕ) (y : Var) (u : Value) (us : List Witness)
    → same_witness (Touch n a p) (Bind m y u us) ≡ false
same-Touch-Bind n a p m y u us = same_touch n a p (Bind m y u us) ∙ ap (same_at (Witness-F.Touch n a p)) (out-Bind m y u us)

pub same-Bind-Touch : (n : ℕ) (x : Var) (v : Value) (vs : List Witness) (m b : ℕ) (q : List ℕ)
    → same_witness (Bind n x v vs) (Touch m b q) ≡ false
same-Bind-Touch n x v vs m b q =
    same_bind n x v vs (Touch m b q) ∙ ap (same_at (Witness-F.Bind n x v (map same_witness vs))) (out-Touch m b q)

pub same-Bind-Bind : (n : ℕ) (x : Var) (v : Value) (vs : List Witness) (m : ℕ) (y : Var) (u : Value) (us : List Witness)
    → same_witness (Bind n x v vs) (Bind m y u us) ≡ (eqb n m && (same_var x y && (same v u && same_forest vs us)))
same-Bind-Bind n x v vs m y u us =
    same_bind n x v vs (Bind m y u us) ∙ ap (same_at (Witness-F.Bind n x v (map same_witness vs))) (out-Bind m y u us)
    ∙ ap (λ b. eqb n m && (same_var x y && (same v u && b))) (all_pass-forest vs us)

-- ---- order

module _ (decls : List VarDecl) where
  order_touch : (n a : ℕ) (p : List ℕ) (w : Witness)
      → witness_order decls (Touch n a p) w ≡ order_at decls (Witness-F.Touch n a p) (out-Witness w)
  order_touch n a p w =
      ap (λ t. witness_order decls t w) (sym (rolls-Touch n a p)) ∙ ap (λ f. f w) (fold-roll-Witness (Witness → Ordering) (order_step decls) _)

  order_bind : (n : ℕ) (x : Var) (v : Value) (vs : List Witness) (w : Witness)
      → witness_order decls (Bind n x v vs) w ≡ order_at decls (Witness-F.Bind n x v (map (witness_order decls) vs)) (out-Witness w)
  order_bind n x v vs w =
      ap (λ t. witness_order decls t w) (sym (rolls-Bind n x v vs)) ∙ ap (λ f. f w) (fold-roll-Witness (Witness → Ordering) (order_step decls) _)

  pub order-Touch-Touch : (n a : ℕ) (p : List ℕ) (m b : ℕ) (q : List ℕ)
      → witness_order decls (Touch n a p) (Touch m b q) ≡ ordering_then (nat_cmp n m) (ordering_then (nat_cmp a b) (slice_cmp nat_cmp p q))
  order-Touch-Touch n a p m b q = order_touch n a p (Touch m b q) ∙ ap (order_at decls (Witness-F.Touch n a p)) (out-Touch m b q)

  pub order-Touch-Bind : (n a : ℕ) (p : List ℕ) (m : ℕ) (y : Var) (u : Value) (us : List Witness)
      → witness_order decls (Touch n a p) (Bind m y u us) ≡ ordering_then (nat_cmp n m) Less
  order-Touch-Bind n a p m y u us = order_touch n a p (Bind m y u us) ∙ ap (order_at decls (Witness-F.Touch n a p)) (out-Bind m y u us)

  pub order-Bind-Touch : (n : ℕ) (x : Var) (v : Value) (vs : List Witness) (m b : ℕ) (q : List ℕ)
      → witness_order decls (Bind n x v vs) (Touch m b q) ≡ ordering_then (nat_cmp n m) Greater
  order-Bind-Touch n x v vs m b q =
      order_bind n x v vs (Touch m b q) ∙ ap (order_at decls (Witness-F.Bind n x v (map (witness_order decls) vs))) (out-Touch m b q)

  pub order-Bind-Bind : (n : ℕ) (x : Var) (v : Value) (vs : List Witness) (m : ℕ) (y : Var) (u : Value) (us : List Witness)
      → witness_order decls (Bind n x v vs) (Bind m y u us) ≡ ordering_then (nat_cmp n m)
      (ordering_then (declared_order decls x y) (ordering_then (value_order v u) (slice_cmp (witness_order decls) vs us)))
  order-Bind-Bind n x v vs m y u us =
      order_bind n x v vs (Bind m y u us) ∙ ap (order_at decls (Witness-F.Bind n x v (map (witness_order decls) vs))) (out-Bind m y u us)
      ∙ ap (λ o. ordering_then (nat_cmp n m) (ordering_then (declared_order decls x y) (ordering_then (value_order v u) o)))
      (slice_cmp-map (witness_order decls) vs us)

-- ---- size

pub size-Touch : (n a : ℕ) (p : List ℕ) → size (Touch n a p) ≡ 1
size-Touch n a p = ap size (sym (rolls-Touch n a p)) ∙ fold-roll-Witness ℕ size_step _

pub size-Bind : (n : ℕ) (x : Var) (v : Value) (ws : List Witness) → size (Bind n x v ws) ≡ 1 + forest_size ws
size-Bind n x v ws = ap size (sym (rolls-Bind n x v ws)) ∙ fold-roll-Witness ℕ size_step _

-- ---- binds at one node

then-assoc : (a b c : Ordering) → ordering_then (ordering_then a b) c ≡ ordering_then a (ordering_then b c)
then-assoc Less b c = refl
then-assoc Equal b c = refl
then-assoc Greater b c = refl

kept : (o p : Ordering) → (o ≡ Equal → ⊥) → ordering_then o p ≡ o
kept Less p h = refl
kept Equal p h = absurd (h refl)
kept Greater p h = refl

module _ (decls : List VarDecl) (n : ℕ) (x : Var) (v : Value) (vs : List Witness) (m : ℕ) (y : Var) (u : Value) (us : List Witness) where
  one_node : Equal ≡ nat_cmp n m → witness_order decls (Bind n x v vs) (Bind m y u us)
      ≡ ordering_then (ordering_then (declared_order decls x y) (value_order v u)) (slice_cmp (witness_order decls) vs us)
  one_node e =
      order-Bind-Bind decls n x v vs m y u us
      ∙ ap (λ o. ordering_then o (ordering_then (declared_order decls x y) (ordering_then (value_order v u) (slice_cmp (witness_order decls) vs us)))) (sym e)
      ∙ sym (then-assoc (declared_order decls x y) (value_order v u) (slice_cmp (witness_order decls) vs us))

  pub order-one-value : Equal ≡ nat_cmp n m → Equal ≡ ordering_then (declared_order decls x y) (value_order v u)
      → witness_order decls (Bind n x v vs) (Bind m y u us) ≡ slice_cmp (witness_order decls) vs us
  order-one-value e h = one_node e ∙ ap (λ o. ordering_then o (slice_cmp (witness_order decls) vs us)) (sym h)

  pub order-by-value : Equal ≡ nat_cmp n m → (o : Ordering) → o ≡ ordering_then (declared_order decls x y) (value_order v u) → (o ≡ Equal → ⊥)
      → witness_order decls (Bind n x v vs) (Bind m y u us) ≡ o
  order-by-value e o h ne =
      one_node e ∙ ap (λ p. ordering_then p (slice_cmp (witness_order decls) vs us)) (sym h)
      ∙ kept o (slice_cmp (witness_order decls) vs us) ne
