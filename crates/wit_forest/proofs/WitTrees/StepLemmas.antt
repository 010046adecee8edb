-- The trees of a forest, step by step.
use Rattle.std.proofs.Common.{◌≡◌, ℕ, ◌<◌, Bool, not, ◌&&◌, ◌||◌, refl, sym, ap, ◌∙◌, List, [], ◌∷◌, map}
use Rattle.std.specs.Prelude.{if◌then◌else◌}
use Rattle.std.specs.List.{list_any}
use Rattle.cfg_build.specs.CfgGraph.Flow.{IsSound, count_of, succ_of}
use Rattle.smpl_terms.specs.Environments.{Environment}
use Rattle.smpl_patch.specs.declared.witness.Witness.{Witness}
use Rattle.ctl_formula.specs.Plain.{Plain, AU, EU}
use Rattle.wit_forest.specs.WitOrder.Forests.{has}
use Rattle.wit_forest.specs.WitTrees.Unions.{union, union_of}
use Rattle.wit_forest.specs.WitTrees.Forest.{World, forest, numbers, reached, is_reached}
use Rattle.wit_forest.proofs.WitTrees.UnionLemmas.{has-union_of}
use Rattle.wit_forest.proofs.WitTrees.ReachLemmas.{any-filter, somewhere-step}

any-map : {X : Type 0} (f : X → List Witness) (xs : List X) (z : Witness) → list_any (λ ws. has ws z) (map f xs) ≡ list_any (λ x. has (f x) z) xs
any-map f [] z = refl
any-map f (x ∷ xs) z = ap (λ b. has (f x) z || b) (any-map f xs z)

-- a union of the forests of several things
pub has-union_map : {X : Type 0} (w : World) (f : X → List Witness) (xs : List X) (z : Witness)
    → has (union_of w.decls (map f xs)) z ≡ list_any (λ x. has (f x) z) xs
has-union_map w f xs z = has-union_of w.decls (map f xs) z ∙ any-map f xs z

module _ (w : World) (ok : IsSound w.graph) (env : Environment) (z : Witness) where
  module _ (f h : Plain) where
    abbrev choice : ℕ → List Witness
    choice n = if w.holds h n env then forest w h n env else forest w f n env

    abbrev way : ℕ → Bool
    way n = w.holds f n env && not (w.holds h n env)

    au_somewhere : (s : ℕ) → has (forest w (AU f h) s env) z
        ≡ list_any (λ m. is_reached w.graph way s m && has (choice m) z) (numbers (count_of w.graph))
    au_somewhere s = has-union_map w choice (reached w.graph way s) z
        ∙ any-filter (is_reached w.graph way s) (λ m. has (choice m) z) (numbers (count_of w.graph))

    -- A[f U h]: the trees here, and if f holds and h doesn't, those of the until at each next node
    pub au-step : (s : ℕ) → s < count_of w.graph → has (forest w (AU f h) s env) z
        ≡ (has (choice s) z || (way s && list_any (λ k. has (forest w (AU f h) k env) z) (succ_of w.graph s)))
    au-step s lt =
        au_somewhere s ∙ somewhere-step w.graph ok way (λ m. has (choice m) z) s lt
        ∙ sym (λ i. has (choice s) z || (way s && list_any (λ k. au_somewhere k i) (succ_of w.graph s)))

    -- E[f U h] at each of its nodes: the end's trees if the end holds, and the way's if the way holds and the until holds at
    -- a next node
    abbrev both : ℕ → List Witness
    both n = union w.decls (if w.holds h n env then forest w h n env else [])
        (if w.holds f n env && list_any (λ k. w.holds (EU f h) k env) (succ_of w.graph n) then forest w f n env else [])

    abbrev on : ℕ → Bool
    on n = w.holds f n env

    eu_somewhere : (s : ℕ) → has (forest w (EU f h) s env) z
        ≡ list_any (λ m. is_reached w.graph on s m && has (both m) z) (numbers (count_of w.graph))
    eu_somewhere s = has-union_map w both (reached w.graph on s) z ∙ any-filter (is_reached w.graph on s) (λ m. has (both m) z) (numbers (count_of w.graph))

    pub eu-step : (s : ℕ) → s < count_of w.graph → has (forest w (EU f h) s env) z
        ≡ (has (both s) z || (on s && list_any (λ k. has (forest w (EU f h) k env) z) (succ_of w.graph s)))
    eu-step s lt =
        eu_somewhere s ∙ somewhere-step w.graph ok on (λ m. has (both m) z) s lt
        ∙ sym (λ i. has (both s) z || (on s && list_any (λ k. eu_somewhere k i) (succ_of w.graph s)))
