use Rattle.std.proofs.Common.{◌≡◌, None, Some, Option, OnOk, IfErr, subst}
use Rattle.smpl_patch.specs.declared.fault.PatchFault.{PatchFault}
use Rattle.ctl_translate.specs.Answers.{IsFaultOf}
use Rattle.ctl_translate.specs.declared.rule.FormulaFault.{FormulaFault}
use Rattle.ctl_translate.specs.declared.rule.FormulaFault.TheVariants as formula_fault
use Rattle.smpl_file.specs.SmplCheck.Checks.{IsFirst}
use Rattle.smpl_file.proofs.SmplCheck.FirstLemmas.{rule-faults}
use Rattle.smpl_file.proofs.smpl_check.rules.check_rule.Goals as goal

pub returns-in-Ok-clause-accepted : goal.returns-in-Ok-clause-accepted
returns-in-Ok-clause-accepted c =
    let f = c.in-Ok.ensures.formula in
    let P : Option PatchFault → Type 0 = λ z. OnOk c.check_vars.result (z ≡ None) in
    subst P (rule-faults c.args.n c.args.rule.now None f.in_limits f.bound) c.check_vars.ensures.accepted

pub returns-in-Ok-clause-fault : goal.returns-in-Ok-clause-fault
returns-in-Ok-clause-fault c =
    let f = c.in-Ok.ensures.formula in
    let P : Option PatchFault → Type 0 = λ z. IfErr c.check_vars.result (λ e. IsFirst z e) in
    subst P (rule-faults c.args.n c.args.rule.now None f.in_limits f.bound) c.check_vars.ensures.fault

pub returns-in-Err-Unbound-clause-accepted : goal.returns-in-Err-Unbound-clause-accepted
returns-in-Err-Unbound-clause-accepted c =
    let Q : FormulaFault → Type 0 = λ z. IsFaultOf c.args.rule.now z in
    let f : IsFaultOf c.args.rule.now (formula_fault.Unbound c.in-Err-Unbound.x) = subst Q c.in-Err-Unbound.field-0-is c.in-Err-Unbound.ensures.fault in
    let P : Option PatchFault → Type 0 = λ z. OnOk c.check_vars-in-Err-Unbound.result (z ≡ None) in
    subst P (rule-faults c.args.n c.args.rule.now (Some c.in-Err-Unbound.x) f.in_limits f.first) c.check_vars-in-Err-Unbound.ensures.accepted

pub returns-in-Err-Unbound-clause-fault : goal.returns-in-Err-Unbound-clause-fault
returns-in-Err-Unbound-clause-fault c =
    let Q : FormulaFault → Type 0 = λ z. IsFaultOf c.args.rule.now z in
    let f : IsFaultOf c.args.rule.now (formula_fault.Unbound c.in-Err-Unbound.x) = subst Q c.in-Err-Unbound.field-0-is c.in-Err-Unbound.ensures.fault in
    let P : Option PatchFault → Type 0 = λ z. IfErr c.check_vars-in-Err-Unbound.result (λ e. IsFirst z e) in
    subst P (rule-faults c.args.n c.args.rule.now (Some c.in-Err-Unbound.x) f.in_limits f.first) c.check_vars-in-Err-Unbound.ensures.fault
