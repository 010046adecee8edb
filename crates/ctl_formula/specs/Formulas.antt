-- Formulas of rules: guarded, and within the limits.
use Rattle.std.specs.Prelude.{◌≡◌, ℕ, ◌<◌, true, List, length}
use Rattle.smpl_patch.specs.declared.pattern.VarDecl.{VarDecl}
use Rattle.smpl_patch.specs.declared.pattern.PatToken.{PatToken}
use Rattle.smpl_patch.specs.Patterns.{sure}
use Rattle.ctl_formula.specs.Bounds.{guarded}
use Rattle.ctl_formula.specs.Plain.{Plain, fits}
use Rattle.ctl_formula.specs.declared.node.Node.{Node}
use Rattle.ctl_formula.specs.Tables.{at, plains, ordered}

-- a table, and the part that is the whole formula, with the declarations and tokens that its patterns are read with
pub record FormulaOf : Type 0 where
  pub nodes : List Node
  pub root : ℕ
  pub decls : List VarDecl
  pub tokens : List PatToken

abbrev pub plain : FormulaOf → Plain
plain f = at (plains f.nodes) f.root

pub record IsFormula (f : FormulaOf) : Type 0 where
  pub within : f.root < length f.nodes
  pub in_order : ordered f.nodes ≡ true
  pub guarded_by_parts : guarded (sure f.decls f.tokens) (plain f) ≡ true
  pub in_limits : fits (plain f) ≡ true
