-- Where a part of a formula holds at a node, given where its parts hold.
use Rattle.std.specs.Prelude.{◌≡◌, ℕ, ◌+◌, ◌<◌, ◌≤◌, Bool, true, false, not, ◌&&◌, ◌||◌, List, [], length, slice_index_or, slice_get}
use Rattle.std.specs.Bool.{Decides}
use Rattle.std.specs.List.{list_all}
use Rattle.cfg_build.specs.CfgGraph.Flow.{Flow, count_of, succ_of, past_of, down_of}
use Rattle.smpl_terms.specs.declared.var.Var.{Var}
use Rattle.smpl_terms.specs.Vars.{same_var}
use Rattle.smpl_terms.specs.Environments.{Environment, change}
use Rattle.smpl_patch.specs.declared.pattern.VarDecl.{VarDecl}
use Rattle.smpl_patch.specs.declared.pattern.PatToken.{PatToken}
use Rattle.env_sets.specs.Sets.{Entries, set_denotes, set_vars, ForSomeValue}
use Rattle.pat_match.specs.Vars.{pattern_vars}
use Rattle.smpl_patch.specs.Patterns.{sure}
use Rattle.ctl_formula.specs.Plain.{Plain}
use Rattle.ctl_formula.specs.Bounds.{guarded}
use Rattle.ctl_formula.specs.Tables.{at, plains}
use Rattle.ctl_formula.specs.declared.node.Node.{Node}
use Rattle.ctl_formula.specs.declared.node.Node.TheVariants as node
use Rattle.ctl_fixpoint.specs.CtlHolds.Holding.{at_node, is_open, is_close, in_block, off_block, atom_at, brace_at}
use Rattle.ctl_fixpoint.specs.CtlHolds.Rounds.{passes, passes_there, rounds, holds}
use Rattle.ctl_fixpoint.specs.CtlHolds.Free.{free_vars}
use Rattle.ctl_fixpoint.specs.CtlHolds.Parts.{EachPattern}
use Rattle.ctl_fixpoint.specs.CtlHolds.BoundLaw.{SureStand}

-- the set at a node
abbrev pub set_of : List Entries → ℕ → Entries
set_of row s = slice_index_or row s []

-- whether it denotes the environment
abbrev pub has : List Entries → ℕ → Environment → Bool
has row s env = set_denotes (set_of row s) env

abbrev pub row_of : List (List Entries) → ℕ → List Entries
row_of rows i = slice_index_or rows i []

-- each variable of each set passes the test
abbrev pub row_vars : (Var → Bool) → List Entries → Bool
row_vars test row = list_all (set_vars test) row

-- n sets, each of which denotes the environments that pass the test at its node
pub record Gives (n : ℕ) (row : List Entries) (test : ℕ → Environment → Bool) : Type 0 where
  pub len : length row ≡ n
  pub means : (s : ℕ) → s < n → (env : Environment) → has row s env ≡ test s env

-- n sets, each of which denotes the environments that the other row's set denotes after some change of x alone
pub record Projects (n : ℕ) (x : Var) (a row : List Entries) : Type 0 where
  pub len : length row ≡ n
  pub means : (s : ℕ) → s < n → (env : Environment)
      → Decides (has row s env) (ForSomeValue (λ v. has a s (change env x v)))

-- Untils and quantifiers take whole rows, and blocks take one pass over the nodes; all else is computed node by node.
abbrev pub is_pointwise : Node → Bool
is_pointwise (node.Inside b) = false
is_pointwise (node.Outside b) = false
is_pointwise (node.AU i j) = false
is_pointwise (node.EU i j) = false
is_pointwise (node.Exists x i) = false
is_pointwise _ = true

abbrev pub is_quantifier : Node → Bool
is_quantifier (node.Exists x i) = true
is_quantifier _ = false

module _ (decls : List VarDecl) (tokens : List PatToken) (g : Flow) where
  -- whether a node of the table holds at node s, where x says whether its parts hold; for a quantifier the value has no
  -- meaning
  abbrev pub step : (ℕ → ℕ → Bool) → Node → ℕ → Environment → Bool
  step x node.True s env = true
  step x (node.Atom p) s env = atom_at decls tokens g p s env
  step x node.EarlyExit s env = at_node g s (λ l. l.bail)
  step x (node.BraceOpen p b) s env = brace_at decls tokens g is_open p b s env
  step x (node.BraceClose p b) s env = brace_at decls tokens g is_close p b s env
  step x (node.Inside b) s env = in_block g (env b) s
  step x (node.Outside b) s env = off_block g (env b) s
  step x (node.Not i) s env = not (x i s)
  step x (node.And i j) s env = x i s && x j s
  step x (node.Or i j) s env = x i s || x j s
  step x (node.AX i) s env = passes true (x i) (succ_of g s)
  step x (node.EX i) s env = passes false (x i) (succ_of g s)
  step x (node.AU i j) s env = rounds g true (x i) (x j) (count_of g) s
  step x (node.EU i j) s env = rounds g false (x i) (x j) (count_of g) s
  step x (node.After i) s env = passes_there (x i) (past_of g s)
  step x (node.InBranch b i) s env = passes_there (x i) (slice_get (down_of g s) b)
  step x (node.Exists y i) s env = x i s

-- each variable of the node passes the test, where v says whether those of its parts do
module _ (decls : List VarDecl) (tokens : List PatToken) where
  abbrev pub step_vars : ((Var → Bool) → ℕ → Bool) → (Var → Bool) → Node → Bool
  step_vars v test node.True = true
  step_vars v test (node.Atom p) = pattern_vars decls tokens test p
  step_vars v test node.EarlyExit = true
  step_vars v test (node.BraceOpen p b) = pattern_vars decls tokens test p && test b
  step_vars v test (node.BraceClose p b) = pattern_vars decls tokens test p && test b
  step_vars v test (node.Inside b) = test b
  step_vars v test (node.Outside b) = test b
  step_vars v test (node.Not i) = v test i
  step_vars v test (node.And i j) = v test i && v test j
  step_vars v test (node.Or i j) = v test i && v test j
  step_vars v test (node.AX i) = v test i
  step_vars v test (node.EX i) = v test i
  step_vars v test (node.AU i j) = v test i && v test j
  step_vars v test (node.EU i j) = v test i && v test j
  step_vars v test (node.After i) = v test i
  step_vars v test (node.InBranch b i) = v test i
  step_vars v test (node.Exists x i) = v (λ y. test y || same_var y x) i

-- the row of a node of the table, given the rows of its parts
pub record IsRowBy (decls : List VarDecl) (tokens : List PatToken) (g : Flow) (rows : List (List Entries)) (n : Node)
    (row : List Entries) : Type 0 where
  pub len : length row ≡ count_of g
  pub told : is_quantifier n ≡ false → Gives (count_of g) row
      (λ s env. step decls tokens g (λ i k. has (row_of rows i) k env) n s env)
  pub projects : (x : Var) (i : ℕ) → n ≡ node.Exists x i → Projects (count_of g) x (row_of rows i) row
  pub vars : (test : Var → Bool) → step_vars decls tokens (λ t i. row_vars t (row_of rows i)) test n ≡ true
      → row_vars test row ≡ true

-- a formula whose quantifiers all range over parts that bind their variables, and whose patterns contain their sure
-- variables
pub record IsGood (decls : List VarDecl) (tokens : List PatToken) (h : Plain) : Type 0 where
  pub guarded_by_parts : guarded (sure decls tokens) h ≡ true
  pub stand : EachPattern (SureStand decls tokens) h

-- a row that denotes where a formula holds, if the formula is a good one
pub record IsRowOf (decls : List VarDecl) (tokens : List PatToken) (g : Flow) (h : Plain) (row : List Entries) : Type 0 where
  pub len : length row ≡ count_of g
  pub means : IsGood decls tokens h → (m : ℕ) → count_of g + 1 ≤ m → (s : ℕ) → s < count_of g → (env : Environment)
      → has row s env ≡ holds decls tokens g m h s env
  pub vars : (test : Var → Bool) → free_vars decls tokens test h ≡ true → row_vars test row ≡ true

-- the rows of the first n parts of a table
pub record AreRowsTo (g : Flow) (nodes : List Node) (decls : List VarDecl) (tokens : List PatToken) (n : ℕ)
    (rows : List (List Entries)) : Type 0 where
  pub len : length rows ≡ n
  pub each : (i : ℕ) → i < n → IsRowOf decls tokens g (at (plains nodes) i) (row_of rows i)
