-- Formulas in which each pattern has the forms of its first one.
use Rattle.std.specs.Prelude.{List}
use Rattle.smpl_patch.specs.declared.pattern.PatToken.{PatToken}
use Rattle.smpl_patch.specs.declared.rule.Iso.{Iso}
use Rattle.ctl_formula.specs.Plain.{Plain, True, Atom, EarlyExit, BraceOpen, BraceClose, Inside, Outside, Not, And, Or, AX}
use Rattle.ctl_formula.specs.Plain.{EX, AU, EU, After, InBranch, Exists}
use Rattle.iso_expand.specs.Bodies.{expanded_pattern}

module _ (isos : List Iso) (tokens : List PatToken) where
  abbrev pub expanded_formula : Plain → Plain
  expanded_formula True = True
  expanded_formula (Atom p) = Atom (expanded_pattern isos tokens p)
  expanded_formula EarlyExit = EarlyExit
  expanded_formula (BraceOpen p b) = BraceOpen (expanded_pattern isos tokens p) b
  expanded_formula (BraceClose p b) = BraceClose (expanded_pattern isos tokens p) b
  expanded_formula (Inside b) = Inside b
  expanded_formula (Outside b) = Outside b
  expanded_formula (Not f) = Not (expanded_formula f)
  expanded_formula (And f g) = And (expanded_formula f) (expanded_formula g)
  expanded_formula (Or f g) = Or (expanded_formula f) (expanded_formula g)
  expanded_formula (AX f) = AX (expanded_formula f)
  expanded_formula (EX f) = EX (expanded_formula f)
  expanded_formula (AU f g) = AU (expanded_formula f) (expanded_formula g)
  expanded_formula (EU f g) = EU (expanded_formula f) (expanded_formula g)
  expanded_formula (After f) = After (expanded_formula f)
  expanded_formula (InBranch i f) = InBranch i (expanded_formula f)
  expanded_formula (Exists x f) = Exists x (expanded_formula f)
