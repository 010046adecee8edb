use Rattle.std.proofs.Common.{◌<◌, ◌^◌, length, arith}
use Rattle.std.proofs.lemmas.Result.{err_from_is_err_and}
use Rattle.smpl_lexer.specs.Texts.{OrNoMemory}
use Rattle.smpl_patch.specs.declared.rule.Patch.{Patch}
use Rattle.smpl_file.specs.Exports.{taken}
use Rattle.smpl_file.specs.Patches.{AreRulesOf, IsFirstRuleFault, IsSpellingFault}
use Rattle.smpl_file.proofs.FaultLemmas.{text-fault, heads-fault, rules-fault, err-map, ok-map}
use Rattle.smpl_file.proofs.RuleLemmas.{rules-length, few-rules}
use Rattle.smpl_file.proofs.spelled_patch.Goals as goal

pub returns-in_err-text-clause-fault : goal.returns-in_err-text-clause-fault
returns-in_err-text-clause-fault c =
    let p = err_from_is_err_and c.from_residual.result c.from_residual.ensures.1 in
    rw (p.1, p.2) (text-fault c.args.bytes.now c.in_err-text.field-0.0 c.in_err-text.ensures.fault)

pub returns-in_err-heads-clause-fault : goal.returns-in_err-heads-clause-fault
returns-in_err-heads-clause-fault c =
    let p = err_from_is_err_and c.from_residual-in_err-heads.result c.from_residual-in_err-heads.ensures.1 in
    rw (p.1, p.2) (heads-fault c.args.bytes.now c.in_ok-text.text c.in_err-heads.field-0.0 c.in_ok-text.ensures.text c.in_err-heads.ensures.fault)

pub returns-clause-few : goal.returns-clause-few
returns-clause-few c =
    let text = c.in_ok-text.text in
    let heads = c.in_ok-heads.heads.heads in
    ok-map (λ (p : Patch). AreRulesOf text heads p) (λ (p : Patch). length p.rules < 2 ^ 32) c.rules_of.result
    (λ p are. omega (
      arith,
      rules-length (taken heads) 0 text.rules heads p.rules are.rules,
      few-rules text c.in_ok-text.ensures.small,
    )) c.rules_of.ensures.patch

pub returns-clause-fault : goal.returns-clause-fault
returns-clause-fault c =
    let text = c.in_ok-text.text in
    let heads = c.in_ok-heads.heads.heads in
    err-map (λ f. OrNoMemory (IsFirstRuleFault text heads) f) (λ f. OrNoMemory (IsSpellingFault c.args.bytes.now) f) c.rules_of.result
    (λ f w. rules-fault c.args.bytes.now text heads f c.in_ok-text.ensures.text c.in_ok-heads.ensures.heads w) c.rules_of.ensures.fault
