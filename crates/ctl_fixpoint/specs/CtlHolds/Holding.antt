-- Path satisfaction: at which nodes of a graph, and under which environments, a formula holds.
use Rattle.std.specs.Prelude.{◌≡◌, ℕ, zero, suc, Bool, true, false, not, ◌&&◌, ◌||◌, ◌⊎◌, Option, None, Some, List}
use Rattle.std.specs.Prelude.{slice_get, Contains}
use Rattle.cfg_build.specs.declared.cfg_graph.label.NodeKind.{NodeKind}
use Rattle.cfg_build.specs.declared.cfg_graph.label.NodeKind.TheVariants as kind
use Rattle.cfg_build.specs.declared.cfg_graph.label.NodeLabel.{NodeLabel}
use Rattle.cfg_build.specs.CfgGraph.Flow.{Flow, succ_of, past_of, down_of}
use Rattle.smpl_terms.specs.declared.var.Var.{Var}
use Rattle.smpl_terms.specs.declared.value.Value.{Value}
use Rattle.smpl_terms.specs.declared.value.Value.TheVariants.{Place}
use Rattle.smpl_terms.specs.Values.{same}
use Rattle.smpl_terms.specs.Environments.{Environment, change}
use Rattle.smpl_patch.specs.declared.pattern.VarDecl.{VarDecl}
use Rattle.smpl_patch.specs.declared.pattern.PatToken.{PatToken}
use Rattle.smpl_patch.specs.declared.pattern.Pattern.{Pattern}
use Rattle.pat_match.specs.Matching.{matches}
use Rattle.ctl_formula.specs.Plain.{Plain, True, Atom, EarlyExit, BraceOpen, BraceClose, Inside, Outside, Not, And, Or, AX, EX, AU}
use Rattle.ctl_formula.specs.Plain.{EU, After, InBranch, Exists}
use Rattle.ctl_fixpoint.specs.CtlHolds.Values.{values_of}
use Rattle.ctl_fixpoint.specs.CtlHolds.Untils.{SomeWalk, EveryWalk}

abbrev pub passes_label : (NodeLabel → Bool) → Option NodeLabel → Bool
passes_label test None = false
passes_label test (Some l) = test l

-- the label of node s passes the test
abbrev pub at_node : Flow → ℕ → (NodeLabel → Bool) → Bool
at_node g s test = passes_label test (slice_get g.labels s)

abbrev pub is_open : NodeKind → Bool
is_open kind.OpenBrace = true
is_open _ = false

abbrev pub is_close : NodeKind → Bool
is_close kind.CloseBrace = true
is_close _ = false

-- the node is a brace of this kind, and v is the place of its `{`
abbrev pub is_brace : (NodeKind → Bool) → Value → NodeLabel → Bool
is_brace is v l = is l.kind && same (Place l.brace) v

-- After the first n nodes the block whose `{` is at v is open: the last of them is that `{`, or the block was open before it
-- and it isn't the block's `}`.
abbrev pub open_after : Flow → Value → ℕ → Bool
open_after g v zero = false
open_after g v (suc n) = at_node g n (λ l. is_brace is_open v l || (not (is_brace is_close v l) && open_after g v n))

-- node s is inside that block: it is the `{`, or comes after it and before the `}`
abbrev pub in_block : Flow → Value → ℕ → Bool
in_block g v s = open_after g v (suc s)

-- node s is neither inside the block nor its `}`
abbrev pub off_block : Flow → Value → ℕ → Bool
off_block g v s = at_node g s (λ l. not (is_brace is_close v l) && not (in_block g v s))

-- the declarations and tokens that a formula's patterns are read with, and the graph that they are compared with
module _ (decls : List VarDecl) (tokens : List PatToken) (g : Flow) where
  -- the pattern matches at node s
  abbrev pub atom_at : Pattern → ℕ → Environment → Bool
  atom_at p s env = at_node g s (λ l. matches decls tokens g.types env p l)

  -- the pattern matches, the node is a brace of this kind, and b is the place of its `{`
  abbrev pub brace_at : (NodeKind → Bool) → Pattern → Var → ℕ → Environment → Bool
  brace_at is p b s env =
      at_node g s (λ l. is l.kind && same (Place l.brace) (env b) && matches decls tokens g.types env p l)

  module _ (m : ℕ) where
    -- The formula holds at node s under the environment. An until considers walks of at most, or exactly, m nodes.
    abbrev pub Holds : Plain → ℕ → Environment → Type 0
    Holds True s env = Unit {0}
    Holds (Atom p) s env = atom_at p s env ≡ true
    Holds EarlyExit s env = at_node g s (λ l. l.bail) ≡ true
    Holds (BraceOpen p b) s env = brace_at is_open p b s env ≡ true
    Holds (BraceClose p b) s env = brace_at is_close p b s env ≡ true
    Holds (Inside b) s env = in_block g (env b) s ≡ true
    Holds (Outside b) s env = off_block g (env b) s ≡ true
    Holds (Not f) s env = Holds f s env → ⊥
    Holds (And f h) s env = Holds f s env × Holds h s env
    Holds (Or f h) s env = Holds f s env ⊎ Holds h s env
    Holds (AX f) s env = (k : ℕ) → Contains (succ_of g s) k → Holds f k env
    Holds (EX f) s env = (k : ℕ) × Contains (succ_of g s) k × Holds f k env
    Holds (AU f h) s env = EveryWalk g m (λ k. Holds f k env) (λ k. Holds h k env) s
    Holds (EU f h) s env = SomeWalk g m (λ k. Holds f k env) (λ k. Holds h k env) s
    Holds (After f) s env = (k : ℕ) × (past_of g s ≡ Some k) × Holds f k env
    Holds (InBranch i f) s env = (k : ℕ) × (slice_get (down_of g s) i ≡ Some k) × Holds f k env
    Holds (Exists x f) s env = (v : Value) × Contains (values_of g) v × Holds f s (change env x v)
