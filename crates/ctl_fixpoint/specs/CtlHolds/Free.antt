-- Which variables occur free in a formula.
use Rattle.std.specs.Prelude.{Bool, true, ◌&&◌, ◌||◌, List}
use Rattle.smpl_terms.specs.declared.var.Var.{Var}
use Rattle.smpl_terms.specs.Vars.{same_var}
use Rattle.smpl_patch.specs.declared.pattern.VarDecl.{VarDecl}
use Rattle.smpl_patch.specs.declared.pattern.PatToken.{PatToken}
use Rattle.pat_match.specs.Vars.{pattern_vars}
use Rattle.ctl_formula.specs.Plain.{Plain, True, Atom, EarlyExit, BraceOpen, BraceClose, Inside, Outside, Not, And, Or, AX, EX, AU}
use Rattle.ctl_formula.specs.Plain.{EU, After, InBranch, Exists}

module _ (decls : List VarDecl) (tokens : List PatToken) where
  -- each free variable of the formula passes the test
  abbrev pub free_vars : (Var → Bool) → Plain → Bool
  free_vars test True = true
  free_vars test (Atom p) = pattern_vars decls tokens test p
  free_vars test EarlyExit = true
  free_vars test (BraceOpen p b) = pattern_vars decls tokens test p && test b
  free_vars test (BraceClose p b) = pattern_vars decls tokens test p && test b
  free_vars test (Inside b) = test b
  free_vars test (Outside b) = test b
  free_vars test (Not f) = free_vars test f
  free_vars test (And f h) = free_vars test f && free_vars test h
  free_vars test (Or f h) = free_vars test f && free_vars test h
  free_vars test (AX f) = free_vars test f
  free_vars test (EX f) = free_vars test f
  free_vars test (AU f h) = free_vars test f && free_vars test h
  free_vars test (EU f h) = free_vars test f && free_vars test h
  free_vars test (After f) = free_vars test f
  free_vars test (InBranch i f) = free_vars test f
  free_vars test (Exists x f) = free_vars (λ y. test y || same_var y x) f
