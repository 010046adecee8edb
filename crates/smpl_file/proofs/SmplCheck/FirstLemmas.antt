-- The first fault of several.
use Rattle.std.proofs.Common.{◌≡◌, ℕ, true, false, if◌then◌else◌, ap, ◌∙◌, sym, subst, Option, Some}
use Rattle.smpl_patch.specs.declared.rule.Rule.{Rule}
use Rattle.smpl_patch.specs.declared.fault.PatchFault.{PatchFault}
use Rattle.smpl_patch.specs.declared.fault.PatchFault.TheVariants as fault
use Rattle.smpl_terms.specs.declared.var.Var.{Var}
use Rattle.ctl_formula.specs.Plain.{fits}
use Rattle.ctl_translate.specs.Rules.{formula_of, first_unbound}
use Rattle.smpl_file.specs.SmplCheck.Checks.{or_later, fault_of_vars, fault_of_rule, IsFirst}
use Rattle.smpl_file.specs.SmplCheck.Known.{fault_by}
use Rattle.smpl_file.proofs.SmplCheck.KnownLemmas.{same-faults}

pub first-same : (a b : Option PatchFault) (f : PatchFault) → a ≡ b → IsFirst a f → IsFirst b f
first-same a b f e h = let P : Option PatchFault → Type 0 = λ z. IsFirst z f in subst P e h

-- the first of some faults is the first of these and later ones
pub first-later : (a b : Option PatchFault) (f : PatchFault) → IsFirst a f → IsFirst (or_later a b) f
first-later a b fault.NoMemory h = tt
first-later a b f h = ap (λ z. or_later z b) h

-- the first fault of a rule within the limits is that of its variables
pub rule-faults : (n : ℕ) (r : Rule) (u : Option Var) → fits (formula_of r) ≡ true → first_unbound r ≡ u → fault_by r u r.vars ≡ fault_of_rule n r
rule-faults n r u f h = same-faults r u r.vars h ∙ sym (ap (λ b. if b then fault_of_vars r r.vars else Some (fault.TooLarge n)) f)

pub large-fault : (n : ℕ) (r : Rule) → fits (formula_of r) ≡ false → fault_of_rule n r ≡ Some (fault.TooLarge n)
large-fault n r f = ap (λ b. if b then fault_of_vars r r.vars else Some (fault.TooLarge n)) f
