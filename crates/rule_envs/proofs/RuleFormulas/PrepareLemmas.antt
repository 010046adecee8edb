-- One more rule of a patch.
use Rattle.std.proofs.Common.{◌≡◌, ◌<◌, ◌+◌, ℕ, inl, inr, sym, ap, subst, ◌∙◌, List, [], ◌∷◌, ◌++◌, length, get_or, drop}
use Rattle.std.proofs.lemmas.List.{drop_more, append_assoc}
use Rattle.smpl_patch.specs.declared.rule.Rule.{Rule}
use Rattle.ctl_translate.specs.Answers.{IsFaultOf}
use Rattle.ctl_translate.specs.declared.rule.FormulaFault.{FormulaFault}
use Rattle.rule_envs.specs.declared.rule_formulas.prepared.PreparedRule.{PreparedRule}
use Rattle.rule_envs.specs.RuleFormulas.Prepared.{IsPrepared, ArePrepared, IsPrepareFault}

-- whatever is prepared of the remaining rules completes what is prepared of those that are done
abbrev pub Completes : List Rule → ℕ → List PreparedRule → Type 0
Completes rules i done = (ps : List PreparedRule) → ArePrepared (drop i rules) ps → ArePrepared rules (done ++ ps)

-- a fault of the remaining rules is one of all rules
abbrev pub FirstOfAll : List Rule → ℕ → Type 0
FirstOfAll rules i = (fault : FormulaFault) → IsPrepareFault (drop i rules) fault → IsPrepareFault rules fault

module _ (rules : List Rule) (i : ℕ) (rule : Rule) (within : i < length rules) (at : rule ≡ get_or rules i rule) where
  left : drop i rules ≡ rule ∷ drop (i + 1) rules
  left = drop_more rules i rule within ∙ ap (λ (r : Rule). r ∷ drop (i + 1) rules) (sym at)

  pub one_more : (done : List PreparedRule) (p : PreparedRule) → IsPrepared rule p → Completes rules i done → Completes rules (i + 1) (done ++ p ∷ [])
  one_more done p is whole ps rest =
      subst (ArePrepared rules) (sym (append_assoc done (p ∷ []) ps))
      (whole (p ∷ ps) (subst (λ rs. ArePrepared rs (p ∷ ps)) (sym left) (is, rest)))

  pub later_fault : (p : PreparedRule) → IsPrepared rule p → FirstOfAll rules i → FirstOfAll rules (i + 1)
  later_fault p is all fault rest =
      all fault (subst (λ rs. IsPrepareFault rs fault) (sym left) (inr (p.formula, (is.formula, rest))))

  pub fault_here : (fault : FormulaFault) → IsFaultOf rule fault → FirstOfAll rules i → IsPrepareFault rules fault
  fault_here fault is all = all fault (subst (λ rs. IsPrepareFault rs fault) (sym left) (inl is))
