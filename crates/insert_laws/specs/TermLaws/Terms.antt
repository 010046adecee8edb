-- Values that are terms, variables that are no positions, and formulas whose blocks have hidden variables.
use Rattle.std.specs.Prelude.{◌≡◌, ℕ, Bool, true, false, List, slice_get}
use Rattle.cfg_build.specs.CfgGraph.Flow.{Flow}
use Rattle.smpl_terms.specs.declared.var.Var.{Var}
use Rattle.smpl_terms.specs.declared.value.Value.{Value}
use Rattle.smpl_terms.specs.declared.value.Value.TheVariants.{Term, Place}
use Rattle.smpl_terms.specs.Environments.{Environment}
use Rattle.smpl_patch.specs.declared.pattern.VarDecl.{VarDecl}
use Rattle.smpl_patch.specs.declared.pattern.PatToken.{PatToken}
use Rattle.smpl_patch.specs.Patterns.{is_position_of, sure}
use Rattle.ctl_formula.specs.Plain.{Plain, True, Atom, EarlyExit, BraceOpen, BraceClose, Inside, Outside, Not, And, Or, AX, EX, AU}
use Rattle.ctl_formula.specs.Plain.{EU, After, InBranch, Exists}
use Rattle.ctl_formula.specs.Bounds.{bound, bound_not}
use Rattle.ctl_fixpoint.specs.CtlHolds.Holding.{Holds}
use Rattle.wit_forest.specs.WitTrees.Forest.{is_hidden}

abbrev pub is_term : Value → Bool
is_term (Term t) = true
is_term (Place p) = false

-- the variable is a position at none of the tokens
abbrev pub IsNoPosition : List PatToken → Var → Type 0
IsNoPosition tokens x = (n : ℕ) → is_position_of (slice_get tokens n) x ≡ false

-- each variable that stands for the place of a block's `{` is hidden
abbrev pub HidesBlocks : Plain → Type 0
HidesBlocks True = Unit {0}
HidesBlocks (Atom p) = Unit {0}
HidesBlocks EarlyExit = Unit {0}
HidesBlocks (BraceOpen p b) = is_hidden b ≡ true
HidesBlocks (BraceClose p b) = is_hidden b ≡ true
HidesBlocks (Inside b) = is_hidden b ≡ true
HidesBlocks (Outside b) = is_hidden b ≡ true
HidesBlocks (Not f) = HidesBlocks f
HidesBlocks (And f h) = HidesBlocks f × HidesBlocks h
HidesBlocks (Or f h) = HidesBlocks f × HidesBlocks h
HidesBlocks (AX f) = HidesBlocks f
HidesBlocks (EX f) = HidesBlocks f
HidesBlocks (AU f h) = HidesBlocks f × HidesBlocks h
HidesBlocks (EU f h) = HidesBlocks f × HidesBlocks h
HidesBlocks (After f) = HidesBlocks f
HidesBlocks (InBranch i f) = HidesBlocks f
HidesBlocks (Exists x f) = HidesBlocks f

-- each variable that a formula binds has a term where it holds, and each that it binds when it fails has one where it
-- doesn't
pub record HasTerms (decls : List VarDecl) (tokens : List PatToken) (g : Flow) (m : ℕ) (f : Plain) (s : ℕ)
    (env : Environment) (x : Var) : Type 0 where
  pub holding : bound (sure decls tokens) f x ≡ true → Holds decls tokens g m f s env → is_term (env x) ≡ true
  pub failing : bound_not (sure decls tokens) f x ≡ true → (Holds decls tokens g m f s env → ⊥)
      → is_term (env x) ≡ true
