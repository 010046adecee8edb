-- The faults that are looked for once all rules are read: formulas that are too large, and variables without a value.
use Rattle.std.specs.Prelude.{◌≡◌, ℕ, suc, Bool, false, not, ◌&&◌, if◌then◌else◌, Option, None, Some, List, [], ◌∷◌}
use Rattle.std.specs.List.{list_any}
use Rattle.smpl_terms.specs.declared.var.Var.{Var}
use Rattle.smpl_patch.specs.declared.pattern.VarDecl.{VarDecl}
use Rattle.smpl_patch.specs.declared.rule.Rule.{Rule}
use Rattle.smpl_patch.specs.declared.rule.Patch.{Patch}
use Rattle.smpl_patch.specs.declared.fault.PatchFault.{PatchFault}
use Rattle.smpl_patch.specs.declared.fault.PatchFault.TheVariants as fault
use Rattle.smpl_patch.specs.Patterns as patterns
use Rattle.smpl_patch.specs.Bodies.{body}
use Rattle.ctl_formula.specs.Plain.{fits}
use Rattle.pattern_vars.specs.VarPlaces.Placing.{any_body}
use Rattle.ctl_translate.specs.Rules.{formula_of, is_unbound}

-- the variable is in plus code, wherever that is anchored
abbrev pub in_plus_code : Rule → Var → Bool
in_plus_code r x = list_any (λ t. patterns.in_plus r.vars (Some t) x) r.tokens

-- it is in the pattern, outside of `when` code
abbrev pub in_pattern : Rule → Var → Bool
in_pattern r x = any_body false (λ p. patterns.stands r.vars r.tokens p x) (body r.body)

-- plus code shows a variable that nothing gives a value: neither an earlier rule nor the pattern
abbrev pub is_unbound_in_plus : Rule → VarDecl → Bool
is_unbound_in_plus r d = not d.inherited && (in_plus_code r d.var && not (in_pattern r d.var))

-- of a variable's two faults, the one of plus code comes first
abbrev pub fault_of_var : Rule → VarDecl → Option PatchFault
fault_of_var r d =
    if is_unbound_in_plus r d then Some (fault.UnboundInPlus d.var)
    else (if is_unbound r d then Some (fault.MayStayUnbound d.var) else None)

abbrev pub or_later : Option PatchFault → Option PatchFault → Option PatchFault
or_later (Some f) later = Some f
or_later None later = later

-- the first fault of the variables in declared order
abbrev pub fault_of_vars : Rule → List VarDecl → Option PatchFault
fault_of_vars r [] = None
fault_of_vars r (d ∷ ds) = or_later (fault_of_var r d) (fault_of_vars r ds)

-- the first fault of the rule with this number: a formula that is too large comes before all others
abbrev pub fault_of_rule : ℕ → Rule → Option PatchFault
fault_of_rule n r = if fits (formula_of r) then fault_of_vars r r.vars else Some (fault.TooLarge n)

-- the rules are checked in order; the first of these has the number n
abbrev pub fault_from : ℕ → List Rule → Option PatchFault
fault_from n [] = None
fault_from n (r ∷ rs) = or_later (fault_of_rule n r) (fault_from (suc n) rs)

abbrev pub first_fault : Patch → Option PatchFault
first_fault p = fault_from 0 p.rules

-- the fault is the first one; running out of memory may happen at any time
abbrev pub IsFirst : Option PatchFault → PatchFault → Type 0
IsFirst first fault.NoMemory = Unit {0}
IsFirst first f = first ≡ Some f

abbrev pub IsFaultOf : Patch → PatchFault → Type 0
IsFaultOf p f = IsFirst (first_fault p) f
