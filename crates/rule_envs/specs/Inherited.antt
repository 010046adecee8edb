-- The variables that a rule takes from earlier rules.
use Rattle.std.specs.Prelude.{cond, List, [], ◌∷◌, ◌++◌}
use Rattle.std.specs.List.{flat_map}
use Rattle.smpl_terms.specs.declared.var.Var.{Var}
use Rattle.smpl_patch.specs.declared.pattern.VarDecl.{VarDecl}
use Rattle.smpl_patch.specs.declared.rule.Rule.{Rule}

-- the variables that are declared as inherited, and the positions after `!=`
abbrev pub inherited_by : VarDecl → List Var
inherited_by d = cond d.inherited (d.var ∷ []) [] ++ d.not_places

abbrev pub inherited_of : Rule → List Var
inherited_of rule = flat_map inherited_by rule.vars
