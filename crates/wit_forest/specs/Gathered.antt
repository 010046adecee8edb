-- What the lists of states and of found trees make up, and when nothing is left to be explored.
use Rattle.std.specs.Prelude.{◌≡◌, ℕ, ◌+◌, ◌<◌, ◌≤◌, Bool, true, false, ◌||◌, ◌⊎◌, List, [], ◌∷◌, ◌++◌, length, slice_index_or, Contains}
use Rattle.std.specs.List.{list_any}
use Rattle.cfg_build.specs.CfgGraph.Flow.{Flow, IsSound, count_of}
use Rattle.smpl_terms.specs.declared.var.Var.{Var}
use Rattle.smpl_terms.specs.declared.value.Value.{Value}
use Rattle.smpl_terms.specs.Environments.{Environment, change, total}
use Rattle.smpl_patch.specs.Patterns.{sure}
use Rattle.smpl_patch.specs.declared.pattern.VarDecl.{VarDecl}
use Rattle.smpl_patch.specs.declared.witness.Witness.{Witness}
use Rattle.smpl_patch.specs.declared.witness.Witness.TheVariants.{Bind}
use Rattle.ctl_formula.specs.declared.node.Node.{Node}
use Rattle.ctl_formula.specs.declared.node.Node.TheVariants as node
use Rattle.env_sets.specs.Sets.{Entries}
use Rattle.ctl_formula.specs.Bounds.{bound}
use Rattle.ctl_formula.specs.Plain.{Exists}
use Rattle.ctl_formula.specs.Tables.{at, plains}
use Rattle.ctl_formula.specs.Formulas.{FormulaOf, IsFormula, plain}
use Rattle.ctl_fixpoint.specs.CtlHolds.Parts.{IsPart, EachPattern}
use Rattle.ctl_fixpoint.specs.CtlHolds.BoundLaw.{SureStand}
use Rattle.ctl_fixpoint.specs.CtlHolds.Rounds.{holds}
use Rattle.ctl_fixpoint.specs.CtlHolds.Values.{values_of}
use Rattle.ctl_fixpoint.specs.States.{AreStateSets}
use Rattle.wit_forest.specs.WitOrder.Forests.{has, Rise}
use Rattle.wit_forest.specs.WitOrder.Sizes.{forest_size, most_nodes}
use Rattle.wit_forest.specs.WitTrees.Alike.{Alike}
use Rattle.wit_forest.specs.WitTrees.Forest.{is_hidden}
use Rattle.wit_forest.specs.WitTrees.Graphs.{forest_of}
use Rattle.wit_forest.specs.WitSteps.Steps.{kids}
use Rattle.wit_forest.specs.WitSteps.Touches.{own_touches}
use Rattle.wit_forest.specs.declared.states.State.{State}

-- different trees that pass the test have more touches and binds than a forest may have
abbrev pub HasTooMany : List VarDecl → (Witness → Bool) → Type 0
HasTooMany decls test =
    (zs : List Witness) × Rise decls zs × ((z : Witness) → has zs z ≡ true → test z ≡ true) × (most_nodes < forest_size zs)

-- the part at the node under an environment with the same values is among the states
abbrev pub Covered : List State → ℕ → ℕ → Environment → Type 0
Covered states i s env =
    (one : State) × Contains states one × (one.part ≡ i) × (one.node ≡ s) × Alike (total one.env) env

-- the list is unchanged, or that state is appended
abbrev pub IsAdded : List State → List State → ℕ → ℕ → List (Var × Value) → Type 0
IsAdded old new i s env = (new ≡ old)
    ⊎ ((one : State) × (new ≡ old ++ one ∷ []) × (one.part ≡ i) × (one.node ≡ s) × (one.env ≡ env))

-- the part binds the variable
abbrev pub IsBound : FormulaOf → Var → ℕ → Type 0
IsBound f x i = bound (sure f.decls f.tokens) (at (plains f.nodes) i) x ≡ true

module _ (g : Flow) (f : FormulaOf) where
  -- the node with a part's number
  abbrev pub node_at : ℕ → Node
  node_at i = slice_index_or f.nodes i node.True

  abbrev pub forest_at : ℕ → ℕ → Environment → List Witness
  forest_at i s env = forest_of f.decls f.tokens g (at (plains f.nodes) i) s env

  abbrev pub holds_at : Environment → ℕ → ℕ → Bool
  holds_at env i s = holds f.decls f.tokens g (count_of g + 1) (at (plains f.nodes) i) s env

  -- z is found, or in the forest of a state
  abbrev pub is_there : List State → List Witness → Witness → Bool
  is_there states found z = has found z || list_any (λ one. has (forest_at one.part one.node (total one.env)) z) states

  -- the preconditions of each step: a sound graph, a well-formed formula whose patterns contain their sure variables, and
  -- the sets of the formula's parts
  pub record AreReady (rows : List (List Entries)) : Type 0 where
    pub sound : IsSound g
    pub formula : IsFormula f
    pub stand : EachPattern (SureStand f.decls f.tokens) (plain f)
    pub sets : AreStateSets g f rows

  -- the number is that of a part of the formula, and at most `most`; the node is one of the graph
  pub record InRange (most i s : ℕ) : Type 0 where
    pub within : i < length f.nodes
    pub low : i ≤ most
    pub part : IsPart (at (plains f.nodes) i) (plain f)
    pub node : s < count_of g

  -- the forest of the quantifier of x over part j
  abbrev pub quantified : Var → ℕ → ℕ → Environment → List Witness
  quantified x j s env = forest_of f.decls f.tokens g (Exists x (at (plains f.nodes) j)) s env

  -- part j is among the states under each value of x under which it holds
  abbrev pub IsHiddenDone : List State → Var → ℕ → ℕ → Environment → Type 0
  IsHiddenDone states x j s env = (v : Value) → Contains (values_of g) v → holds_at (change env x v) j s ≡ true → Covered states j s (change env x v)

  -- the tree of each value of x under which part j holds is found
  abbrev pub IsShownDone : List Witness → Var → ℕ → ℕ → Environment → Type 0
  IsShownDone found x j s env = (v : Value) → Contains (values_of g) v → holds_at (change env x v) j s ≡ true
      → has found (Bind s x v (forest_at j s (change env x v))) ≡ true

  -- what a part at a node leads to is among the states or found
  pub record IsExplored (states : List State) (found : List Witness) (i s : ℕ) (env : Environment) : Type 0 where
    pub own : (z : Witness) → has (own_touches f.decls f.tokens g (node_at i) s env) z ≡ true → has found z ≡ true
    pub kid : (k : ℕ × ℕ) → Contains (kids g (holds_at env) (node_at i) i s) k → Covered states k.0 k.1 env
    pub hidden : (x : Var) (j : ℕ) → node_at i ≡ node.Exists x j → is_hidden x ≡ true → IsHiddenDone states x j s env
    pub shown : (x : Var) (j : ℕ) → node_at i ≡ node.Exists x j → is_hidden x ≡ false → IsShownDone found x j s env

  -- the trees of the new lists are those of the old ones and `ws`, and no tree is lost
  abbrev pub Adds : List State → List State → List Witness → List Witness → List Witness → Type 0
  Adds states more found trees ws = (z : Witness) → is_there more trees z ≡ (is_there states found z || has ws z)

  -- no state and no tree is lost, and the new states have parts with numbers up to `most`
  pub record Grows (most : ℕ) (states more : List State) (found trees : List Witness) : Type 0 where
    pub rest : List State
    pub longer : more ≡ states ++ rest
    pub kept : (z : Witness) → has found z ≡ true → has trees z ≡ true
    pub range : (one : State) → Contains rest one → InRange most one.part one.node
