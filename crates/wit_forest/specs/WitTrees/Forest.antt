-- The forest of a formula at a node under an environment: the trees of what makes it hold there.
use Rattle.std.specs.Prelude.{ℕ, zero, suc, ◌+◌, Bool, true, false, not, ◌&&◌, eqb, if◌then◌else◌, Option, None, Some, List, [], ◌∷◌, ◌++◌, map, slice_get}
use Rattle.std.specs.List.{filter, list_any}
use Rattle.cfg_build.specs.CfgGraph.Flow.{Flow, count_of, succ_of, past_of, down_of}
use Rattle.smpl_terms.specs.declared.var.Var.{Var}
use Rattle.smpl_terms.specs.declared.value.Value.{Value}
use Rattle.smpl_terms.specs.Environments.{Environment, change}
use Rattle.smpl_patch.specs.declared.pattern.Pattern.{Pattern}
use Rattle.smpl_patch.specs.declared.pattern.VarDecl.{VarDecl}
use Rattle.smpl_patch.specs.declared.witness.Witness.{Witness}
use Rattle.smpl_patch.specs.declared.witness.Witness.TheVariants.{Touch, Bind}
use Rattle.ctl_formula.specs.Plain.{Plain, True, Atom, EarlyExit, BraceOpen, BraceClose, Inside, Outside, Not, And, Or, AX, EX, AU}
use Rattle.ctl_formula.specs.Plain.{EU, After, InBranch, Exists}
use Rattle.ctl_fixpoint.specs.CtlHolds.Rounds.{rounds}
use Rattle.wit_forest.specs.WitTrees.Unions.{union, union_of}

-- what forests depend on: a graph, the values that variables can have in it, where formulas hold, what an atom touches, and
-- the order in which variables are declared
pub record World : Type 0 where
  pub graph : Flow
  pub values : List Value
  pub holds : Plain → ℕ → Environment → Bool
  -- the places that a pattern touches at a node
  pub touches : Pattern → ℕ → Environment → List (List ℕ)
  pub decls : List VarDecl

-- the numbers below n
abbrev pub numbers : ℕ → List ℕ
numbers zero = []
numbers (suc n) = numbers n ++ n ∷ []

-- the variable of a block, whose value is the place of its `{`: its name begins with `{`, as no declared name does
abbrev pub is_hidden_name : List ℕ → Bool
is_hidden_name [] = false
is_hidden_name (c ∷ cs) = eqb c 123

abbrev pub is_hidden : Var → Bool
is_hidden x = is_hidden_name x.name

-- some walk from s reaches n, and each node before n passes
abbrev pub is_reached : Flow → (ℕ → Bool) → ℕ → ℕ → Bool
is_reached g test s n = rounds g false test (λ k. eqb k n) (count_of g + 1) s

-- the nodes that walks from s reach through nodes that pass
abbrev pub reached : Flow → (ℕ → Bool) → ℕ → List ℕ
reached g test s = filter (is_reached g test s) (numbers (count_of g))

module _ (w : World) where
  abbrev pub touched : Pattern → ℕ → Environment → List Witness
  touched p s env = union_of w.decls (map (λ path. Touch s p.atom path ∷ []) (w.touches p s env))

  abbrev pub at_option : (ℕ → List Witness) → Option ℕ → List Witness
  at_option f None = []
  at_option f (Some k) = f k

  -- under a value: one tree, or for a hidden variable the forest itself
  abbrev pub bound_to : Bool → ℕ → Var → Value → List Witness → List Witness
  bound_to true s x v ws = ws
  bound_to false s x v ws = Bind s x v ws ∷ []

  -- This has a meaning only if the formula holds at s under env.
  abbrev pub forest : Plain → ℕ → Environment → List Witness
  forest True s env = []
  forest (Atom p) s env = touched p s env
  forest EarlyExit s env = []
  forest (BraceOpen p b) s env = touched p s env
  forest (BraceClose p b) s env = touched p s env
  forest (Inside b) s env = []
  forest (Outside b) s env = []
  forest (Not f) s env = []
  forest (And f h) s env = union w.decls (forest f s env) (forest h s env)
  forest (Or f h) s env = union w.decls (if w.holds f s env then forest f s env else [])
      (if w.holds h s env then forest h s env else [])
  forest (AX f) s env = union_of w.decls (map (λ k. forest f k env) (succ_of w.graph s))
  forest (EX f) s env =
      union_of w.decls (map (λ k. if w.holds f k env then forest f k env else []) (succ_of w.graph s))
  forest (AU f h) s env = union_of w.decls (map (λ n. if w.holds h n env then forest h n env else forest f n env)
      (reached w.graph (λ n. w.holds f n env && not (w.holds h n env)) s))
  forest (EU f h) s env = union_of w.decls (map
      (λ n. union w.decls (if w.holds h n env then forest h n env else [])
      (if w.holds f n env && list_any (λ k. w.holds (EU f h) k env) (succ_of w.graph n) then forest f n env else []))
      (reached w.graph (λ n. w.holds f n env) s))
  forest (After f) s env = at_option (λ k. forest f k env) (past_of w.graph s)
  forest (InBranch i f) s env = at_option (λ k. forest f k env) (slice_get (down_of w.graph s) i)
  forest (Exists x f) s env = union_of w.decls (map
      (λ v. bound_to (is_hidden x) s x v (forest f s (change env x v)))
      (filter (λ v. w.holds f s (change env x v)) w.values))
