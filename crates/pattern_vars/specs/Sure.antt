-- For internal use: what branches of disjunctions have in common.
use Rattle.std.specs.Prelude.{Bool, true, Option, None, Some, List}
use Rattle.smpl_terms.specs.declared.var.Var.{Var}
use Rattle.pattern_vars.specs.Reads.{has}

-- `None` stands for all variables
abbrev pub has_unless_all : Option (List Var) → Var → Bool
has_unless_all None x = true
has_unless_all (Some vars) x = has vars x
