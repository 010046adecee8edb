-- The faults of variables, given the first variable that may stay unbound.
use Rattle.std.specs.Prelude.{Bool, false, not, ◌&&◌, if◌then◌else◌, Option, None, Some, List, [], ◌∷◌}
use Rattle.smpl_terms.specs.declared.var.Var.{Var}
use Rattle.smpl_terms.specs.Vars.{same_var}
use Rattle.smpl_patch.specs.declared.pattern.VarDecl.{VarDecl}
use Rattle.smpl_patch.specs.declared.rule.Rule.{Rule}
use Rattle.smpl_patch.specs.declared.fault.PatchFault.{PatchFault}
use Rattle.smpl_patch.specs.declared.fault.PatchFault.TheVariants as fault
use Rattle.smpl_file.specs.SmplCheck.Checks.{is_unbound_in_plus}

-- the declaration is the rule's own, of this variable
abbrev pub is_own_of : Option Var → VarDecl → Bool
is_own_of None d = false
is_own_of (Some x) d = not d.inherited && same_var d.var x

abbrev pub fault_by : Rule → Option Var → List VarDecl → Option PatchFault
fault_by r unbound [] = None
fault_by r unbound (d ∷ ds) =
    if is_unbound_in_plus r d then Some (fault.UnboundInPlus d.var)
    else (if is_own_of unbound d then Some (fault.MayStayUnbound d.var) else fault_by r unbound ds)
