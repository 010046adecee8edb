-- In a patch without faults of meaning, each rule's formula is within the limits, and no variable can remain unbound in it.
use Rattle.std.proofs.Common.{◌≡◌, ℕ, suc, Bool, true, false, refl, ap, ◌∙◌, if◌then◌else◌, Option, None, Some, List, [], ◌∷◌}
use Rattle.std.specs.List.{AllByRecursion}
use Rattle.smpl_patch.specs.declared.pattern.VarDecl.{VarDecl}
use Rattle.smpl_patch.specs.declared.fault.PatchFault.{PatchFault}
use Rattle.smpl_patch.specs.declared.fault.PatchFault.TheVariants as fault
use Rattle.smpl_patch.specs.declared.rule.Rule.{Rule}
use Rattle.ctl_formula.specs.Plain.{fits}
use Rattle.ctl_translate.specs.Rules.{formula_of, is_unbound, first_unbound, first_unbound_from}
use Rattle.smpl_file.specs.SmplCheck.Checks.{is_unbound_in_plus, fault_of_var, or_later, fault_of_vars, fault_of_rule, fault_from}

first-none : (o p : Option PatchFault) → or_later o p ≡ None → o ≡ None
first-none None p e = refl
first-none (Some f) p e = e

later-none : (o p : Option PatchFault) → or_later o p ≡ None → p ≡ None
later-none None p e = e
later-none (Some f) p e = absurd cc

-- no fault is told where there is one
no-fault : (b : Bool) (f : PatchFault) (o : Option PatchFault) → (if b then Some f else o) ≡ None → b ≡ false
no-fault true f o e = absurd cc
no-fault false f o e = refl

other-fault : (b : Bool) (f : PatchFault) (o : Option PatchFault) → (if b then Some f else o) ≡ None → o ≡ None
other-fault true f o e = absurd cc
other-fault false f o e = e

has-size : (b : Bool) (f : PatchFault) (o : Option PatchFault) → (if b then o else Some f) ≡ None → b ≡ true
has-size true f o e = refl
has-size false f o e = absurd cc

sized : (b : Bool) (f : PatchFault) (o : Option PatchFault) → (if b then o else Some f) ≡ None → o ≡ None
sized true f o e = e
sized false f o e = absurd cc

var-right : (r : Rule) (d : VarDecl) → fault_of_var r d ≡ None → is_unbound r d ≡ false
var-right r d e =
    let rest = if is_unbound r d then Some (fault.MayStayUnbound d.var) else None in
    no-fault (is_unbound r d) (fault.MayStayUnbound d.var) None
    (other-fault (is_unbound_in_plus r d) (fault.UnboundInPlus d.var) rest e)

vars-right : (r : Rule) (ds : List VarDecl) → fault_of_vars r ds ≡ None → first_unbound_from r ds ≡ None
vars-right r [] e = refl
vars-right r (d ∷ ds) e =
    ap (λ (b : Bool). if b then Some d.var else first_unbound_from r ds)
    (var-right r d (first-none (fault_of_var r d) (fault_of_vars r ds) e))
    ∙ vars-right r ds (later-none (fault_of_var r d) (fault_of_vars r ds) e)

-- the formula is within the limits, and no variable may stay unbound in it
abbrev pub IsRight : Rule → Type 0
IsRight r = (fits (formula_of r) ≡ true) × (first_unbound r ≡ None)

rule-right : (n : ℕ) (r : Rule) → fault_of_rule n r ≡ None → IsRight r
rule-right n r e = (
  has-size (fits (formula_of r)) (fault.TooLarge n) (fault_of_vars r r.vars) e,
  vars-right r r.vars (sized (fits (formula_of r)) (fault.TooLarge n) (fault_of_vars r r.vars) e),
)

pub rules-right : (n : ℕ) (rs : List Rule) → fault_from n rs ≡ None → AllByRecursion IsRight rs
rules-right n [] e = tt
rules-right n (r ∷ rs) e = (
  rule-right n r (first-none (fault_of_rule n r) (fault_from (suc n) rs) e),
  rules-right (suc n) rs (later-none (fault_of_rule n r) (fault_from (suc n) rs) e),
)
