-- Forests are ascending.
use Rattle.std.proofs.Common.{ℕ, Bool, true, false, cond, not, ◌&&◌, Option, Some, None, List, [], ◌∷◌, map}
use Rattle.std.specs.List.{filter, list_any}
use Rattle.std.specs.Prelude.{slice_get}
use Rattle.cfg_build.specs.CfgGraph.Flow.{succ_of, past_of, down_of}
use Rattle.smpl_terms.specs.Environments.{Environment, change}
use Rattle.smpl_patch.specs.declared.witness.Witness.{Witness}
use Rattle.smpl_patch.specs.declared.witness.Witness.TheVariants.{Touch}
use Rattle.ctl_formula.specs.Plain.{Plain, True, Atom, EarlyExit, BraceOpen, BraceClose, Inside, Outside, Not, And, Or, AX, EX, AU, EU, After, InBranch, Exists}
use Rattle.wit_forest.specs.WitOrder.Forests.{Rise}
use Rattle.wit_forest.specs.WitTrees.Forest.{World, forest, at_option, bound_to, is_hidden, reached}
use Rattle.wit_forest.specs.WitTrees.Unions.{union}
use Rattle.wit_forest.proofs.WitTrees.UnionLemmas.{Rise-union, Rise-union_of}

module _ (w : World) where
  choice_rises : (b : Bool) (ws : List Witness) → Rise w.decls ws → Rise w.decls (cond b ws [])
  choice_rises true ws r = r
  choice_rises false ws r = tt

  option_rises : (f : ℕ → List Witness) (o : Option ℕ) → ((k : ℕ) → Rise w.decls (f k)) → Rise w.decls (at_option w f o)
  option_rises f None r = tt
  option_rises f (Some k) r = r k

  pub forest_rises : (f : Plain) (s : ℕ) (env : Environment) → Rise w.decls (forest w f s env)
  forest_rises True s env = tt
  forest_rises (Atom p) s env = Rise-union_of w.decls (map (λ path. Touch s p.atom path ∷ []) (w.touches p s env))
  forest_rises EarlyExit s env = tt
  forest_rises (BraceOpen p b) s env = Rise-union_of w.decls (map (λ path. Touch s p.atom path ∷ []) (w.touches p s env))
  forest_rises (BraceClose p b) s env = Rise-union_of w.decls (map (λ path. Touch s p.atom path ∷ []) (w.touches p s env))
  forest_rises (Inside b) s env = tt
  forest_rises (Outside b) s env = tt
  forest_rises (Not f) s env = tt
  forest_rises (And f h) s env = Rise-union w.decls (forest w f s env) (forest w h s env) (forest_rises h s env)
  forest_rises (Or f h) s env =
      Rise-union w.decls (cond (w.holds f s env) (forest w f s env) []) (cond (w.holds h s env) (forest w h s env) [])
      (choice_rises (w.holds h s env) (forest w h s env) (forest_rises h s env))
  forest_rises (AX f) s env = Rise-union_of w.decls (map (λ k. forest w f k env) (succ_of w.graph s))
  forest_rises (EX f) s env = Rise-union_of w.decls (map (λ k. cond (w.holds f k env) (forest w f k env) []) (succ_of w.graph s))
  forest_rises (AU f h) s env = Rise-union_of w.decls (map (λ n. cond (w.holds h n env) (forest w h n env) (forest w f n env))
      (reached w.graph (λ n. w.holds f n env && not (w.holds h n env)) s))
  forest_rises (EU f h) s env = Rise-union_of w.decls (map (λ n. union w.decls (cond (w.holds h n env) (forest w h n env) [])
      (cond (w.holds f n env && list_any (λ k. w.holds (EU f h) k env) (succ_of w.graph n)) (forest w f n env) []))
      (reached w.graph (λ n. w.holds f n env) s))
  forest_rises (After f) s env = option_rises (λ k. forest w f k env) (past_of w.graph s) (λ k. forest_rises f k env)
  forest_rises (InBranch i f) s env = option_rises (λ k. forest w f k env) (slice_get (down_of w.graph s) i) (λ k. forest_rises f k env)
  forest_rises (Exists x f) s env = Rise-union_of w.decls (map (λ v. bound_to w (is_hidden x) s x v (forest w f s (change env x v)))
      (filter (λ v. w.holds f s (change env x v)) w.values))
