-- Where a formula holds, as a computation: an until by rounds over all nodes.
use Rattle.std.specs.Prelude.{ℕ, zero, suc, Bool, true, false, not, ◌&&◌, ◌||◌, Option, None, Some, List, slice_get}
use Rattle.std.specs.List.{list_any, list_all}
use Rattle.cfg_build.specs.CfgGraph.Flow.{Flow, succ_of, past_of, down_of}
use Rattle.smpl_terms.specs.Environments.{Environment, change}
use Rattle.smpl_patch.specs.declared.pattern.VarDecl.{VarDecl}
use Rattle.smpl_patch.specs.declared.pattern.PatToken.{PatToken}
use Rattle.ctl_formula.specs.Plain.{Plain, True, Atom, EarlyExit, BraceOpen, BraceClose, Inside, Outside, Not, And, Or, AX, EX, AU}
use Rattle.ctl_formula.specs.Plain.{EU, After, InBranch, Exists}
use Rattle.ctl_fixpoint.specs.CtlHolds.Values.{values_of}
use Rattle.ctl_fixpoint.specs.CtlHolds.Holding.{at_node, is_open, is_close, in_block, off_block, atom_at, brace_at}

-- each of the nodes passes, or some of them does
abbrev pub passes : Bool → (ℕ → Bool) → List ℕ → Bool
passes true x nodes = list_all x nodes
passes false x nodes = list_any x nodes

-- there is a node, and it passes
abbrev pub passes_there : (ℕ → Bool) → Option ℕ → Bool
passes_there x None = false
passes_there x (Some k) = x k

module _ (g : Flow) (every : Bool) (p q : ℕ → Bool) where
  -- q holds here, or p holds here and x holds next
  abbrev pub round : (ℕ → Bool) → ℕ → Bool
  round x s = q s || (p s && passes every x (succ_of g s))

  -- the result of this many rounds, of which the first starts with no nodes
  abbrev pub rounds : ℕ → ℕ → Bool
  rounds zero s = false
  rounds (suc k) s = round (rounds k) s

module _ (decls : List VarDecl) (tokens : List PatToken) (g : Flow) (m : ℕ) where
  abbrev pub holds : Plain → ℕ → Environment → Bool
  holds True s env = true
  holds (Atom p) s env = atom_at decls tokens g p s env
  holds EarlyExit s env = at_node g s (λ l. l.bail)
  holds (BraceOpen p b) s env = brace_at decls tokens g is_open p b s env
  holds (BraceClose p b) s env = brace_at decls tokens g is_close p b s env
  holds (Inside b) s env = in_block g (env b) s
  holds (Outside b) s env = off_block g (env b) s
  holds (Not f) s env = not (holds f s env)
  holds (And f h) s env = holds f s env && holds h s env
  holds (Or f h) s env = holds f s env || holds h s env
  holds (AX f) s env = passes true (λ k. holds f k env) (succ_of g s)
  holds (EX f) s env = passes false (λ k. holds f k env) (succ_of g s)
  holds (AU f h) s env = rounds g true (λ k. holds f k env) (λ k. holds h k env) m s
  holds (EU f h) s env = rounds g false (λ k. holds f k env) (λ k. holds h k env) m s
  holds (After f) s env = passes_there (λ k. holds f k env) (past_of g s)
  holds (InBranch i f) s env = passes_there (λ k. holds f k env) (slice_get (down_of g s) i)
  holds (Exists x f) s env = list_any (λ v. holds f s (change env x v)) (values_of g)
