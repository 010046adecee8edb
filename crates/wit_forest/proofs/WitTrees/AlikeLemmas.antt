-- Under environments that give each variable the same value a formula holds at the same nodes, and its forests are equal.
use Rattle.std.proofs.Common.{◌≡◌, ℕ, zero, suc, ◌+◌, Bool, true, false, cond, ◌&&◌, ◌||◌, not, refl, List, [], ◌∷◌, map, Option, Some, None}
use Rattle.std.specs.Prelude.{slice_get, if◌then◌else◌}
use Rattle.std.specs.List.{list_any, filter}
use Rattle.cfg_build.specs.declared.cfg_graph.label.NodeKind.{NodeKind}
use Rattle.cfg_build.specs.declared.cfg_graph.label.NodeLabel.{NodeLabel}
use Rattle.cfg_build.specs.CfgGraph.Flow.{Flow, count_of, succ_of, past_of, down_of}
use Rattle.smpl_terms.specs.declared.var.Var.{Var}
use Rattle.smpl_terms.specs.declared.value.Value.{Value}
use Rattle.smpl_terms.specs.declared.value.Value.TheVariants.{Place}
use Rattle.smpl_terms.specs.Vars.{same_var}
use Rattle.smpl_terms.specs.Values.{same}
use Rattle.smpl_terms.specs.Environments.{Environment, change}
use Rattle.smpl_terms.proofs.ValueLaws.{same-refl, same-along}
use Rattle.smpl_patch.specs.declared.pattern.VarDecl.{VarDecl}
use Rattle.smpl_patch.specs.declared.pattern.PatToken.{PatToken}
use Rattle.smpl_patch.specs.declared.pattern.Pattern.{Pattern}
use Rattle.smpl_patch.specs.declared.witness.Witness.TheVariants.{Touch}
use Rattle.ctl_formula.specs.Plain.{Plain, True, Atom, EarlyExit, BraceOpen, BraceClose, Inside, Outside, Not, And, Or, AX, EX, AU, EU, After, InBranch, Exists}
use Rattle.ctl_fixpoint.specs.CtlHolds.Values.{values_of}
use Rattle.ctl_fixpoint.specs.CtlHolds.Holding.{at_node, is_open, is_close, is_brace, open_after, in_block, off_block}
use Rattle.ctl_fixpoint.specs.CtlHolds.Rounds.{holds, passes, passes_there, rounds}
use Rattle.wit_forest.specs.WitTrees.Alike.{Alike}
use Rattle.wit_forest.specs.WitTrees.Marks.{is_touched}
use Rattle.wit_forest.specs.WitTrees.Unions.{union, union_of}
use Rattle.wit_forest.specs.WitTrees.Forest.{World, forest, reached, is_hidden, bound_to, at_option}
use Rattle.wit_forest.specs.WitTrees.Graphs.{world_of, forest_of, paths_at}
use Rattle.wit_forest.proofs.WitTrees.MatchLemmas.{matches_alike, aligns_alike}

-- one more variable with one value
at_var : (b : Bool) (v : Value) (d e : Value) → same d e ≡ true → same (cond b v d) (cond b v e) ≡ true
at_var true v d e h = same-refl v
at_var false v d e h = h

pub change_alike : (d e : Environment) (x : Var) (v : Value) → Alike d e → Alike (change d x v) (change e x v)
change_alike d e x v a y = at_var (same_var y x) v (d y) (e y) (a y)

-- one variable with values that are the same
at_value : (b : Bool) (v u : Value) (d : Value) → same v u ≡ true → same (cond b v d) (cond b u d) ≡ true
at_value true v u d h = h
at_value false v u d h = same-refl d

pub value_alike : (d : Environment) (x : Var) (v u : Value) → same v u ≡ true → Alike (change d x v) (change d x u)
value_alike d x v u h y = at_value (same_var y x) v u (d y) h

-- values that are the same are the places of the same block
module _ (g : Flow) (v u : Value) (h : same v u ≡ true) where
  brace-alike : (is : NodeKind → Bool) (l : NodeLabel) → is_brace is v l ≡ is_brace is u l
  brace-alike is l = λ i. is l.kind && same-along v u h (Place l.brace) i

  open-alike : (n : ℕ) → open_after g v n ≡ open_after g u n
  open-alike zero = refl
  open-alike (suc n) = λ i. at_node g n (λ l.
      brace-alike is_open l i || (not (brace-alike is_close l i) && open-alike n i))

  in_block-alike : (s : ℕ) → in_block g v s ≡ in_block g u s
  in_block-alike s = open-alike (suc s)

  off_block-alike : (s : ℕ) → off_block g v s ≡ off_block g u s
  off_block-alike s = λ i. at_node g s (λ l. not (brace-alike is_close l i) && not (in_block-alike s i))

module _ (decls : List VarDecl) (tokens : List PatToken) (g : Flow) where
  module _ (m : ℕ) where
    abbrev H : Plain → ℕ → Environment → Bool
    H = holds decls tokens g m

    holding : (f : Plain) (s : ℕ) (d e : Environment) → Alike d e → H f s d ≡ H f s e
    holding True s d e a = refl
    holding (Atom p) s d e a = λ i. at_node g s (λ l. matches_alike decls tokens g.types d e a p l i)
    holding EarlyExit s d e a = refl
    holding (BraceOpen p b) s d e a = λ i. at_node g s (λ l.
        is_open l.kind && same-along (d b) (e b) (a b) (Place l.brace) i && matches_alike decls tokens g.types d e a p l i)
    holding (BraceClose p b) s d e a = λ i. at_node g s (λ l.
        is_close l.kind && same-along (d b) (e b) (a b) (Place l.brace) i && matches_alike decls tokens g.types d e a p l i)
    holding (Inside b) s d e a = in_block-alike g (d b) (e b) (a b) s
    holding (Outside b) s d e a = off_block-alike g (d b) (e b) (a b) s
    holding (Not f) s d e a = λ i. not (holding f s d e a i)
    holding (And f h) s d e a = λ i. holding f s d e a i && holding h s d e a i
    holding (Or f h) s d e a = λ i. holding f s d e a i || holding h s d e a i
    holding (AX f) s d e a = λ i. passes true (λ k. holding f k d e a i) (succ_of g s)
    holding (EX f) s d e a = λ i. passes false (λ k. holding f k d e a i) (succ_of g s)
    holding (AU f h) s d e a = λ i. rounds g true (λ k. holding f k d e a i) (λ k. holding h k d e a i) m s
    holding (EU f h) s d e a = λ i. rounds g false (λ k. holding f k d e a i) (λ k. holding h k d e a i) m s
    holding (After f) s d e a = λ i. passes_there (λ k. holding f k d e a i) (past_of g s)
    holding (InBranch n f) s d e a = λ i. passes_there (λ k. holding f k d e a i) (slice_get (down_of g s) n)
    holding (Exists x f) s d e a =
        λ i. list_any (λ v. holding f s (change d x v) (change e x v) (change_alike d e x v a) i) (values_of g)

  abbrev W : World
  W = world_of decls tokens g

  held : (f : Plain) (s : ℕ) (d e : Environment) → Alike d e → W.holds f s d ≡ W.holds f s e
  held = holding (count_of g + 1)

  paths : (p : Pattern) (d e : Environment) → Alike d e → (o : Option NodeLabel) → paths_at decls tokens g.types p d o ≡ paths_at decls tokens g.types p e o
  paths p d e a None = refl
  paths p d e a (Some l) = λ i. map (λ t. t.path) (aligns_alike decls tokens g.types d e a p l i)

  touching : (p : Pattern) (s : ℕ) (d e : Environment) → Alike d e → W.touches p s d ≡ W.touches p s e
  touching p s d e a = λ i. if is_touched tokens p then paths p d e a (slice_get g.labels s) i else []

  touched_alike : (p : Pattern) (s : ℕ) (d e : Environment) → Alike d e → forest W (Atom p) s d ≡ forest W (Atom p) s e
  touched_alike p s d e a = λ i. union_of decls (map (λ path. Touch s p.atom path ∷ []) (touching p s d e a i))

  forests : (f : Plain) (s : ℕ) (d e : Environment) → Alike d e → forest W f s d ≡ forest W f s e
  forests True s d e a = refl
  forests (Atom p) s d e a = touched_alike p s d e a
  forests EarlyExit s d e a = refl
  forests (BraceOpen p b) s d e a = touched_alike p s d e a
  forests (BraceClose p b) s d e a = touched_alike p s d e a
  forests (Inside b) s d e a = refl
  forests (Outside b) s d e a = refl
  forests (Not f) s d e a = refl
  forests (And f h) s d e a = λ i. union decls (forests f s d e a i) (forests h s d e a i)
  forests (Or f h) s d e a = λ i. union decls (if held f s d e a i then forests f s d e a i else [])
      (if held h s d e a i then forests h s d e a i else [])
  forests (AX f) s d e a = λ i. union_of decls (map (λ k. forests f k d e a i) (succ_of g s))
  forests (EX f) s d e a = λ i. union_of decls (map (λ k. if held f k d e a i then forests f k d e a i else []) (succ_of g s))
  forests (AU f h) s d e a = λ i. union_of decls (map (λ n. if held h n d e a i then forests h n d e a i else forests f n d e a i)
      (reached g (λ n. held f n d e a i && not (held h n d e a i)) s))
  forests (EU f h) s d e a = λ i. union_of decls (map
      (λ n. union decls (if held h n d e a i then forests h n d e a i else [])
      (if held f n d e a i && list_any (λ k. held (EU f h) k d e a i) (succ_of g n) then forests f n d e a i else []))
      (reached g (λ n. held f n d e a i) s))
  forests (After f) s d e a = λ i. at_option W (λ k. forests f k d e a i) (past_of g s)
  forests (InBranch n f) s d e a = λ i. at_option W (λ k. forests f k d e a i) (slice_get (down_of g s) n)
  forests (Exists x f) s d e a = λ i. union_of decls (map
      (λ v. bound_to W (is_hidden x) s x v (forests f s (change d x v) (change e x v) (change_alike d e x v a) i))
      (filter (λ v. held f s (change d x v) (change e x v) (change_alike d e x v a) i) (values_of g)))

pub holds_alike : (decls : List VarDecl) (tokens : List PatToken) (g : Flow) (m : ℕ) (f : Plain) (s : ℕ) (d e : Environment)
    → Alike d e → holds decls tokens g m f s d ≡ holds decls tokens g m f s e
holds_alike decls tokens g m f s d e a = holding decls tokens g m f s d e a

pub forest_alike : (decls : List VarDecl) (tokens : List PatToken) (g : Flow) (f : Plain) (s : ℕ) (d e : Environment)
    → Alike d e → forest_of decls tokens g f s d ≡ forest_of decls tokens g f s e
forest_alike decls tokens g f s d e a = forests decls tokens g f s d e a
