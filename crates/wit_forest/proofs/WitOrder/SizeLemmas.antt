-- Sizes of forests.
use Rattle.std.proofs.Common.{◌≡◌, ℕ, ◌+◌, refl, sym, ap, ◌∙◌, Bool, true, false, eqb, List, [], ◌∷◌, map}
use Rattle.std.proofs.lemmas.List.Sums.{sum_by-cons}
use Rattle.smpl_terms.specs.Vars.{same_var}
use Rattle.smpl_terms.specs.Values.{same}
use Rattle.smpl_patch.specs.declared.witness.Witness.{Witness}
use Rattle.smpl_patch.specs.declared.witness.Witness.TheVariants.{Touch, Bind}
use Rattle.wit_forest.specs.WitOrder.Same.{same_witness, same_forest}
use Rattle.wit_forest.specs.WitOrder.Sizes.{size, forest_size}
use Rattle.wit_forest.proofs.WitOrder.Induct.{Each, witness_induction, witness_cases}
use Rattle.wit_forest.proofs.WitOrder.WitnessLemmas.{same-Touch-Bind, same-Bind-Touch, same-Bind-Bind, size-Touch, size-Bind}
use Rattle.wit_forest.proofs.WitOrder.RiseLemmas.{both_parts}

forest_size-cons : (w : Witness) (ws : List Witness) → forest_size (w ∷ ws) ≡ size w + forest_size ws
forest_size-cons w ws = sum_by-cons (λ (n : ℕ). n) (size w) (map size ws)

abbrev Sized : Witness → Type 0
Sized w = (u : Witness) → same_witness w u ≡ true → size w ≡ size u

forests_sized : (vs ws : List Witness) → Each Sized vs → same_forest vs ws ≡ true → forest_size vs ≡ forest_size ws
forests_sized [] [] e h = refl
forests_sized [] (w ∷ ws) e h = absurd cc
forests_sized (v ∷ vs) [] e h = absurd cc
forests_sized (v ∷ vs) (w ∷ ws) e h =
    let p = both_parts (same_witness v w) (same_forest vs ws) h in
    forest_size-cons v vs ∙ (λ i. e.0 w p.0 i + forests_sized vs ws e.1 p.1 i) ∙ sym (forest_size-cons w ws)

clash : (b : Bool) → b ≡ false → b ≡ true → ⊥
clash b h k = let e : false ≡ true = sym h ∙ k in absurd cc

-- the same trees have the same size
pub size-along : (w : Witness) → Sized w
size-along = witness_induction Sized
    (λ n a p. witness_cases (λ u. same_witness (Touch n a p) u ≡ true → size (Touch n a p) ≡ size u)
    (λ m b q h. size-Touch n a p ∙ sym (size-Touch m b q))
    (λ m y u us h. absurd (clash _ (same-Touch-Bind n a p m y u us) h)))
    (λ n x v vs e. witness_cases (λ u. same_witness (Bind n x v vs) u ≡ true → size (Bind n x v vs) ≡ size u)
    (λ m b q h. absurd (clash _ (same-Bind-Touch n x v vs m b q) h))
    (λ m y u us h.
    let first = both_parts (eqb n m) _ (sym (same-Bind-Bind n x v vs m y u us) ∙ h) in
    let second = both_parts (same_var x y) _ first.1 in
    let forests = (both_parts (same v u) (same_forest vs us) second.1).1 in
    size-Bind n x v vs ∙ ap (λ k. 1 + k) (forests_sized vs us e forests) ∙ sym (size-Bind m y u us)))

each : (P : Witness → Type 0) → ((w : Witness) → P w) → (ws : List Witness) → Each P ws
each P all [] = tt
each P all (w ∷ ws) = (all w, each P all ws)

pub forest_size-along : (vs ws : List Witness) → same_forest vs ws ≡ true → forest_size vs ≡ forest_size ws
forest_size-along vs ws = forests_sized vs ws (each Sized size-along vs)
