-- What the rules of a patch are run by.
use Rattle.std.specs.Prelude.{◌≡◌, ◌⊎◌, List, [], ◌∷◌}
use Rattle.std.specs.List.{AllZip}
use Rattle.smpl_patch.specs.declared.rule.Rule.{Rule}
use Rattle.ctl_formula.specs.Formulas.{FormulaOf}
use Rattle.ctl_translate.specs.Answers.{IsFormulaOf, IsFaultOf}
use Rattle.ctl_translate.specs.declared.rule.FormulaFault.{FormulaFault}
use Rattle.rule_envs.specs.Inherited.{inherited_of}
use Rattle.rule_envs.specs.declared.rule_formulas.prepared.PreparedRule.{PreparedRule}

pub record IsPrepared (rule : Rule) (p : PreparedRule) : Type 0 where
  pub formula : IsFormulaOf rule p.formula
  pub inherited : p.inherited ≡ inherited_of rule

-- what is prepared of each rule, in its place, and no more
abbrev pub ArePrepared : List Rule → List PreparedRule → Type 0
ArePrepared rules prepared = AllZip IsPrepared rules prepared

-- the fault of the first rule that has no formula which may be used
abbrev pub IsPrepareFault : List Rule → FormulaFault → Type 0
IsPrepareFault [] fault = ⊥
IsPrepareFault (rule ∷ rules) fault =
    IsFaultOf rule fault ⊎ ((f : FormulaOf) × (IsFormulaOf rule f × IsPrepareFault rules fault))
