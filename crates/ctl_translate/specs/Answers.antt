-- What `formula_of` returns.
use Rattle.std.specs.Prelude.{◌≡◌, true, false, None, Some}
use Rattle.smpl_terms.specs.declared.var.Var.{Var}
use Rattle.smpl_patch.specs.declared.rule.Rule.{Rule}
use Rattle.ctl_formula.specs.Plain.{fits}
use Rattle.ctl_formula.specs.Formulas.{FormulaOf, plain}
use Rattle.ctl_translate.specs.Rules.{formula_of, first_unbound}
use Rattle.ctl_translate.specs.declared.rule.FormulaFault.{FormulaFault}
use Rattle.ctl_translate.specs.declared.rule.FormulaFault.TheVariants as fault

-- the rule's formula, which is within the limits and in which no variable may stay unbound, with what its patterns are
-- read with
pub record IsFormulaOf (r : Rule) (f : FormulaOf) : Type 0 where
  pub formula : plain f ≡ formula_of r
  pub decls : f.decls ≡ r.vars
  pub tokens : f.tokens ≡ r.tokens
  pub in_limits : fits (formula_of r) ≡ true
  pub bound : first_unbound r ≡ None

pub record IsUnbound (r : Rule) (x : Var) : Type 0 where
  pub in_limits : fits (formula_of r) ≡ true
  pub first : first_unbound r ≡ Some x

-- each fault except the lack of memory is returned exactly when it must be
abbrev pub IsFaultOf : Rule → FormulaFault → Type 0
IsFaultOf r fault.TooLarge = fits (formula_of r) ≡ false
IsFaultOf r (fault.Unbound x) = IsUnbound r x
IsFaultOf r fault.NoMemory = Unit {0}
