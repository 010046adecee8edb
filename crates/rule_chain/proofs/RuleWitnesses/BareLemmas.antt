-- Trees of witnesses without ids: equal trees stay equal, and have the same size.
use Rattle.std.proofs.Common.{◌≡◌, ℕ, ◌+◌, eqb, refl, sym, ap, ◌∙◌, Bool, true, false, arith, List, [], ◌∷◌, map}
use Rattle.std.proofs.lemmas.List.Sums.{sum_by-cons}
use Rattle.std.proofs.lemmas.Bool.Decides.{nat_tests}
use Rattle.c_terms.specs.Same.{same_bytes}
use Rattle.c_terms.specs.Bare.{bare}
use Rattle.c_terms.specs.declared.tree.Tree.{Tree}
use Rattle.c_terms.specs.declared.tree.Tree.TheVariants.{Branch}
use Rattle.c_terms.proofs.BareLaws.{same_bytes-equal, bare-Leaf, bare-Branch}
use Rattle.c_terms.proofs.Induct as terms
use Rattle.smpl_terms.specs.declared.var.Var.{Var}
use Rattle.smpl_terms.specs.declared.value.Value.{Value}
use Rattle.smpl_terms.specs.declared.value.Value.TheVariants.{Term, Place}
use Rattle.smpl_terms.specs.Vars.{same_var}
use Rattle.smpl_terms.specs.Values.{same}
use Rattle.smpl_terms.proofs.VarLaws.{same_var-equal}
use Rattle.smpl_patch.specs.declared.witness.Witness.{Witness}
use Rattle.smpl_patch.specs.declared.witness.Witness.TheVariants.{Touch, Bind, rolls-Touch, rolls-Bind}
use Rattle.smpl_patch.specs.declared.witness.Witness.TheFolds.{fold-roll-Witness}
use Rattle.wit_forest.specs.WitOrder.Same.{same_witness, same_forest}
use Rattle.wit_forest.specs.WitOrder.Sizes.{size, forest_size}
use Rattle.wit_forest.proofs.WitOrder.Induct.{Each, witness_induction, witness_cases}
use Rattle.wit_forest.proofs.WitOrder.WitnessLemmas.{same-Touch-Touch, same-Touch-Bind, same-Bind-Touch, same-Bind-Bind, size-Bind}
use Rattle.wit_forest.proofs.WitOrder.RiseLemmas.{both_parts}
use Rattle.env_parts.specs.Parts.{Pairs, bare_value, bare_env}
use Rattle.env_parts.proofs.PartLemmas.{same-bare_value}
use Rattle.rule_chain.specs.RuleWitnesses.Bare.{bare_tree, bare_step}

bare-Touch : (n a : ℕ) (p : List ℕ) → bare_tree (Touch n a p) ≡ Touch n a p
bare-Touch n a p = ap bare_tree (sym (rolls-Touch n a p)) ∙ fold-roll-Witness Witness bare_step _

bare-Bind : (n : ℕ) (x : Var) (v : Value) (ws : List Witness)
    → bare_tree (Bind n x v ws) ≡ Bind n x (bare_value v) (map bare_tree ws)
bare-Bind n x v ws = ap bare_tree (sym (rolls-Bind n x v ws)) ∙ fold-roll-Witness Witness bare_step _

each : (P : Witness → Type 0) → ((w : Witness) → P w) → (ws : List Witness) → Each P ws
each P all [] = tt
each P all (w ∷ ws) = (all w, each P all ws)

clash : (b : Bool) → b ≡ false → b ≡ true → ⊥
clash b h k = let e : false ≡ true = sym h ∙ k in absurd cc

number : (n m : ℕ) → eqb n m ≡ true → n ≡ m
number n m h = grind (arith, nat_tests)

-- ---- the same trees are equal without ids

abbrev Settles : Witness → Type 0
Settles w = (u : Witness) → same_witness w u ≡ true → bare_tree w ≡ bare_tree u

forests_settle : (vs ws : List Witness) → Each Settles vs → same_forest vs ws ≡ true → map bare_tree vs ≡ map bare_tree ws
forests_settle [] [] e h = refl
forests_settle [] (w ∷ ws) e h = absurd cc
forests_settle (v ∷ vs) [] e h = absurd cc
forests_settle (v ∷ vs) (w ∷ ws) e h =
    let p = both_parts (same_witness v w) (same_forest vs ws) h in
    λ i. e.0 w p.0 i ∷ forests_settle vs ws e.1 p.1 i

same-bare_tree : (w : Witness) → Settles w
same-bare_tree = witness_induction Settles
    (λ n a p. witness_cases (λ u. same_witness (Touch n a p) u ≡ true → bare_tree (Touch n a p) ≡ bare_tree u)
    (λ m b q h.
    let first = both_parts (eqb n m) _ (sym (same-Touch-Touch n a p m b q) ∙ h) in
    let second = both_parts (eqb a b) (same_bytes p q) first.1 in
    let node = number n m first.0 in let atom = number a b second.0 in let path = same_bytes-equal p q second.1 in
    bare-Touch n a p ∙ (λ i. Touch (node i) (atom i) (path i)) ∙ sym (bare-Touch m b q))
    (λ m y u us h. absurd (clash _ (same-Touch-Bind n a p m y u us) h)))
    (λ n x v vs e. witness_cases (λ u. same_witness (Bind n x v vs) u ≡ true → bare_tree (Bind n x v vs) ≡ bare_tree u)
    (λ m b q h. absurd (clash _ (same-Bind-Touch n x v vs m b q) h))
    (λ m y u us h.
    let first = both_parts (eqb n m) _ (sym (same-Bind-Bind n x v vs m y u us) ∙ h) in
    let second = both_parts (same_var x y) _ first.1 in
    let third = both_parts (same v u) (same_forest vs us) second.1 in
    let node = number n m first.0 in let name = same_var-equal x y second.0 in
    let value = same-bare_value v u third.0 in let under = forests_settle vs us e third.1 in
    bare-Bind n x v vs ∙ (λ i. Bind (node i) (name i) (value i) (under i)) ∙ sym (bare-Bind m y u us)))

pub same-bare_forest : (vs ws : List Witness) → same_forest vs ws ≡ true → map bare_tree vs ≡ map bare_tree ws
same-bare_forest vs ws = forests_settle vs ws (each Settles same-bare_tree vs)

-- ---- a tree has its size without ids

forest_size-cons : (w : Witness) (ws : List Witness) → forest_size (w ∷ ws) ≡ size w + forest_size ws
forest_size-cons w ws = sum_by-cons (λ (n : ℕ). n) (size w) (map size ws)

abbrev Keeps : Witness → Type 0
Keeps w = size (bare_tree w) ≡ size w

forests_keep : (ws : List Witness) → Each Keeps ws → forest_size (map bare_tree ws) ≡ forest_size ws
forests_keep [] e = refl
forests_keep (w ∷ ws) e =
    forest_size-cons (bare_tree w) (map bare_tree ws) ∙ (λ i. e.0 i + forests_keep ws e.1 i) ∙ sym (forest_size-cons w ws)

size-bare_tree : (w : Witness) → Keeps w
size-bare_tree = witness_induction Keeps
    (λ n a p. ap size (bare-Touch n a p))
    (λ n x v ws e.
    ap size (bare-Bind n x v ws) ∙ size-Bind n x (bare_value v) (map bare_tree ws) ∙ ap (λ k. 1 + k) (forests_keep ws e)
    ∙ sym (size-Bind n x v ws))

pub size-bare_forest : (ws : List Witness) → forest_size (map bare_tree ws) ≡ forest_size ws
size-bare_forest ws = forests_keep ws (each Keeps size-bare_tree ws)

-- ---- leaving ids out once more changes nothing

abbrev Settled : Tree → Type 0
Settled t = bare (bare t) ≡ bare t

settled_all : (cs : List Tree) → terms.Each Settled cs → map bare (map bare cs) ≡ map bare cs
settled_all [] e = refl
settled_all (c ∷ cs) e = let a = e.0 in let r = settled_all cs e.1 in λ i. a i ∷ r i

bare-bare : (t : Tree) → bare (bare t) ≡ bare t
bare-bare = terms.tree_induction Settled
    (λ a. ap bare (bare-Leaf a) ∙ bare-Leaf (record a { id = 0 }) ∙ sym (bare-Leaf a))
    (λ l cs e. ap bare (bare-Branch l cs) ∙ bare-Branch l (map bare cs) ∙ ap (Branch l) (settled_all cs e) ∙ sym (bare-Branch l cs))

bare_twice : (v : Value) → bare_value (bare_value v) ≡ bare_value v
bare_twice (Term t) = ap Term (bare-bare t)
bare_twice (Place p) = refl

pub bare_env_twice : (env : Pairs) → bare_env (bare_env env) ≡ bare_env env
bare_env_twice [] = refl
bare_env_twice (p ∷ ps) = λ i. (p.0, bare_twice p.1 i) ∷ bare_env_twice ps i
