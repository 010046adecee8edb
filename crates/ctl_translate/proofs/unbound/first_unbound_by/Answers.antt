use Rattle.std.proofs.Common.{◌<◌, ◌∙◌, ap, arith, length, Some}
use Rattle.ctl_translate.specs.Rules as rules
use Rattle.ctl_translate.proofs.RuleLemmas.{passed, found-first}
use Rattle.ctl_translate.proofs.unbound.first_unbound_by.Goals as goal

pub loop-d-preserved : goal.loop-d-preserved
loop-d-preserved c =
    let ds = c.as_slice-d-items.result.now in
    let within : c.loop-d.d-index < length ds = omega arith in
    passed c.args.rule.now c.args.exports.now c.args.found.now ds c.loop-d.d-index c.d-item.result c.in_ok-is_unbound.field-0
    (rules.first_unbound_from c.args.rule.now ds) c.requires.exports c.requires.found c.as_slice-d-items.ensures within
    c.d-item.is c.in_ok-is_unbound.ensures c.loop-d.invariant c.if-branch.false

pub returns-then-branch : goal.returns-then-branch
returns-then-branch c =
    let ds = c.as_slice-d-items.result.now in
    let within : c.loop-d.d-index < length ds = omega arith in
    let first = found-first c.args.rule.now c.args.exports.now c.args.found.now ds c.loop-d.d-index c.d-item.result
    c.in_ok-is_unbound.field-0 (rules.first_unbound_from c.args.rule.now ds) c.requires.exports c.requires.found
    c.as_slice-d-items.ensures within c.d-item.is c.in_ok-is_unbound.ensures c.loop-d.invariant c.if-branch.true in
    ap Some c.in_ok-copy.ensures.same ∙ first ∙ ap (rules.first_unbound_from c.args.rule.now) c.as_slice-d-items.ensures
