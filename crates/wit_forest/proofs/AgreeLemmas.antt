-- If two tests of parts at nodes agree at a node's parts, the node leads to the same parts by both.
use Rattle.std.proofs.Common.{◌≡◌, ℕ, ◌<◌, Bool, true, cond, refl, List, [], ◌∷◌, ◌++◌, map, Contains}
use Rattle.std.specs.List.{flat_map}
use Rattle.cfg_build.specs.CfgGraph.Flow.{Flow, IsSound, count_of, succ_of}
use Rattle.ctl_formula.specs.declared.node.Node.{Node}
use Rattle.ctl_formula.specs.declared.node.Node.TheVariants as node
use Rattle.ctl_fixpoint.proofs.CtlHolds.TestLemmas.{Contains-first, Contains-later}
use Rattle.ctl_fixpoint.proofs.CtlHolds.GraphLemmas.{node_after}
use Rattle.wit_forest.specs.WitSteps.Steps.{kids, held, way_on}
use Rattle.wit_forest.proofs.KidRangeLemmas.{EachKid, is_until}

module _ (g : Flow) (ok : IsSound g) (a b : ℕ → ℕ → Bool) where
  abbrev pub Agree : ℕ → Type 0
  Agree i = (k : ℕ) → k < count_of g → a i k ≡ b i k

  abbrev Nodes : List ℕ → Type 0
  Nodes xs = (k : ℕ) → Contains xs k → k < count_of g

  later : (x : ℕ) (xs : List ℕ) → Nodes (x ∷ xs) → Nodes xs
  later x xs ns k c = ns k (Contains-later x k xs c)

  each_held : (i : ℕ) (xs : List ℕ) → Nodes xs → Agree i → flat_map (held g a i) xs ≡ flat_map (held g b i) xs
  each_held i [] ns h = refl
  each_held i (x ∷ xs) ns h =
      let first = h x (ns x (Contains-first x xs)) in
      let rest = each_held i xs (later x xs ns) h in
      λ n. cond (first n) ((i, x) ∷ []) [] ++ rest n

  each_way : (part i s : ℕ) (xs : List ℕ) → Nodes xs → Agree part → flat_map (way_on g a part i s) xs ≡ flat_map (way_on g b part i s) xs
  each_way part i s [] ns h = refl
  each_way part i s (x ∷ xs) ns h =
      let first = h x (ns x (Contains-first x xs)) in
      let rest = each_way part i s xs (later x xs ns) h in
      λ n. cond (first n) ((i, s) ∷ (part, x) ∷ []) [] ++ rest n

  pub kids_agree : (x : Node) (part s : ℕ) → s < count_of g → EachKid Agree x → (is_until x ≡ true → Agree part)
      → kids g a x part s ≡ kids g b x part s
  kids_agree node.True part s l e u = refl
  kids_agree (node.Atom p) part s l e u = refl
  kids_agree node.EarlyExit part s l e u = refl
  kids_agree (node.BraceOpen p v) part s l e u = refl
  kids_agree (node.BraceClose p v) part s l e u = refl
  kids_agree (node.Inside b) part s l e u = refl
  kids_agree (node.Outside b) part s l e u = refl
  kids_agree (node.Not i) part s l e u = refl
  kids_agree (node.And i j) part s l e u = refl
  kids_agree (node.Or i j) part s l e u = λ n. cond (e.0 s l n) ((i, s) ∷ []) [] ++ cond (e.1 s l n) ((j, s) ∷ []) []
  kids_agree (node.AX i) part s l e u = refl
  kids_agree (node.EX i) part s l e u = each_held i (succ_of g s) (λ k c. node_after g ok s k l c) e
  kids_agree (node.AU i j) part s l e u =
      λ n. cond (e.1 s l n) ((j, s) ∷ []) ((i, s) ∷ cond (e.0 s l n) (map (λ k. (part, k)) (succ_of g s)) [])
  kids_agree (node.EU i j) part s l e u =
      let on = each_way part i s (succ_of g s) (λ k c. node_after g ok s k l c) (u refl) in
      λ n. cond (e.1 s l n) ((j, s) ∷ []) [] ++ cond (e.0 s l n) (on n) []
  kids_agree (node.After i) part s l e u = refl
  kids_agree (node.InBranch v i) part s l e u = refl
  kids_agree (node.Exists v i) part s l e u = refl
