-- Sets by part and node, which denote where the parts of a formula hold.
use Rattle.std.specs.Prelude.{◌≡◌, ℕ, ◌+◌, ◌<◌, ◌≤◌, Bool, true, List, [], length, slice_index_or}
use Rattle.std.specs.Bool.{Decides}
use Rattle.cfg_build.specs.CfgGraph.Flow.{Flow, count_of}
use Rattle.smpl_terms.specs.declared.var.Var.{Var}
use Rattle.smpl_terms.specs.Environments.{Environment}
use Rattle.smpl_patch.specs.declared.pattern.VarDecl.{VarDecl}
use Rattle.smpl_patch.specs.declared.pattern.PatToken.{PatToken}
use Rattle.env_sets.specs.Sets.{Entries, set_denotes, set_vars}
use Rattle.env_sets.specs.States.{set_at}
use Rattle.ctl_formula.specs.Plain.{Plain}
use Rattle.ctl_formula.specs.Tables.{at, plains}
use Rattle.ctl_formula.specs.Formulas.{FormulaOf, plain}
use Rattle.ctl_fixpoint.specs.CtlHolds.Holding.{Holds}
use Rattle.ctl_fixpoint.specs.CtlHolds.Free.{free_vars}
use Rattle.ctl_fixpoint.specs.CtlHolds.Parts.{IsPart}

-- The set denotes exactly the environments under which h holds at node s, for every bound on walks that is greater than the
-- number of nodes; and its variables are free in h.
pub record StandsFor (decls : List VarDecl) (tokens : List PatToken) (g : Flow) (h : Plain) (s : ℕ) (set : Entries) : Type 0 where
  pub means : (m : ℕ) → count_of g + 1 ≤ m → (env : Environment)
      → Decides (set_denotes set env) (Holds decls tokens g m h s env)
  pub vars : (test : Var → Bool) → free_vars decls tokens test h ≡ true → set_vars test set ≡ true

-- For each part of the table there is a row of sets, one per node. If the part is one of the formula, its sets denote where
-- it holds.
pub record AreStateSets (g : Flow) (f : FormulaOf) (rows : List (List Entries)) : Type 0 where
  pub parts : length rows ≡ length f.nodes
  pub nodes : (i : ℕ) → i < length f.nodes → length (slice_index_or rows i []) ≡ count_of g
  pub stand : (i s : ℕ) → i < length f.nodes → IsPart (at (plains f.nodes) i) (plain f) → s < count_of g
      → StandsFor f.decls f.tokens g (at (plains f.nodes) i) s (set_at rows i s)
