use Rattle.std.proofs.Common.{◌≡◌, Some, slice_get}
use Rattle.std.proofs.lemmas.Result.{err_from_is_err_and}
use Rattle.smpl_lexer.specs.Texts.{OrNoMemory}
use Rattle.smpl_lexer.specs.declared.text.RuleText.{RuleText}
use Rattle.smpl_meta.specs.Patterns.{pattern_tokens}
use Rattle.smpl_plus.specs.Anchors.{plus_faults, first_phase, AreAnchored}
use Rattle.smpl_body.specs.Bodies.{IsBodyFault}
use Rattle.smpl_file.specs.Patches.{IsRuleFault}
use Rattle.smpl_file.specs.Patches.IsRuleFault.{in_plus, in_body}
use Rattle.smpl_file.proofs.FaultLemmas.{or-map}
use Rattle.smpl_file.proofs.RuleLemmas.{body-short, some-map, some-both}
use Rattle.smpl_file.proofs.rules.rule_of.Goals as goal

pub read_body-requires-clause-short : goal.read_body-requires-clause-short
read_body-requires-clause-short c = body-short c.args.text.now c.args.rule c.requires.small c.requires.within

pub returns-in_err-tokens-clause-fault : goal.returns-in_err-tokens-clause-fault
returns-in_err-tokens-clause-fault c =
    let p = err_from_is_err_and c.from_residual.result c.from_residual.ensures.1 in
    let f = c.in_err-tokens.field-0.0 in
    let h = c.args.head.now in
    let n = c.args.rule in
    rw (p.1, p.2)
    (some-map (λ (r : RuleText). OrNoMemory (λ g. first_phase (plus_faults h.vars n r.body) ≡ Some g) f) (λ (r : RuleText). OrNoMemory (IsRuleFault n r h) f)
    (slice_get c.args.text.now.rules n)
    (λ r w. or-map (λ g. first_phase (plus_faults h.vars n r.body) ≡ Some g) (IsRuleFault n r h) f (λ g k. in_plus k) w)
    c.in_err-tokens.ensures.fault)

pub returns-in_err-body-clause-fault : goal.returns-in_err-body-clause-fault
returns-in_err-body-clause-fault c =
    let p = err_from_is_err_and c.from_residual-in_err-body.result c.from_residual-in_err-body.ensures.1 in
    let f = c.in_err-body.field-0.0 in
    let h = c.args.head.now in
    let n = c.args.rule in
    rw (p.1, p.2)
    (some-both (λ (r : RuleText). AreAnchored h.vars n r.body c.in_ok-tokens.tokens)
    (λ (r : RuleText). OrNoMemory (IsBodyFault (pattern_tokens h.vars r.body) r.end) f) (λ (r : RuleText). OrNoMemory (IsRuleFault n r h) f)
    (slice_get c.args.text.now.rules n)
    (λ r a w. or-map (IsBodyFault (pattern_tokens h.vars r.body) r.end) (IsRuleFault n r h) f (λ g k. in_body a.faultless k) w)
    c.in_ok-tokens.ensures.tokens c.in_err-body.ensures.fault)
