-- The rules of a patch without faults of meaning have formulas.
use Rattle.std.proofs.Common.{◌≡◌, true, false, refl, sym, ◌∙◌, inl, inr, true≢false, List, [], ◌∷◌}
use Rattle.smpl_patch.specs.declared.rule.Rule.{Rule}
use Rattle.ctl_translate.specs.Answers.{IsFaultOf}
use Rattle.ctl_translate.specs.declared.rule.FormulaFault.{FormulaFault}
use Rattle.ctl_translate.specs.declared.rule.FormulaFault.TheVariants as fault
use Rattle.std.specs.List.{AllByRecursion}
use Rattle.rule_envs.specs.RuleFormulas.Prepared.{IsPrepareFault}
use Rattle.rule_laws.proofs.RightLemmas.{IsRight}

no-other : (r : Rule) (f : FormulaFault) → IsRight r → IsFaultOf r f → f ≡ fault.NoMemory
no-other r fault.TooLarge right is = absurd (true≢false (sym right.0 ∙ is))
no-other r (fault.Unbound x) right is = let none = sym right.1 ∙ is.first in absurd cc
no-other r fault.NoMemory right is = refl

pub no-prepare-fault : (rs : List Rule) (f : FormulaFault) → AllByRecursion IsRight rs → IsPrepareFault rs f → f ≡ fault.NoMemory
no-prepare-fault [] f right is = absurd is
no-prepare-fault (r ∷ rs) f right (inl is) = no-other r f right.0 is
no-prepare-fault (r ∷ rs) f right (inr more) = no-prepare-fault rs f right.1 more.1.1
