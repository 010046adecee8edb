use Rattle.std.proofs.Common.{◌≡◌, ◌<◌, ◌+◌, sym, ap, subst, ◌∙◌, arith, length, get_or}
use Rattle.rule_chain.proofs.WordLemmas.{Completes, one_more, whole}
use Rattle.rule_chain.proofs.rule_words.words_of_rules.Goals as goal

pub loop-rule-preserved : goal.loop-rule-preserved
loop-rule-preserved c =
    let all = c.args.prepared.now.rules in
    let i = c.loop-rule.rule-index in
    let one = c.rule-item.result in
    let within : i < length all = omega (arith, ap length c.as_slice-rule-items.ensures) in
    let at : one ≡ get_or all i one = c.rule-item.is ∙ ap (λ ps. get_or ps i one) c.as_slice-rule-items.ensures in
    subst (λ done. Completes all (i + 1) done) (sym c.in_ok-push.ensures.items)
    (one_more all i one within at c.loop-rule.words.items c.in_ok-words_of.field-0 c.in_ok-words_of.ensures.exact c.loop-rule.invariant)

pub returns : goal.returns
returns c =
    let all = c.args.prepared.now.rules in
    let past : length all ≡ length c.as_slice-rule-items.result.now = sym (ap length c.as_slice-rule-items.ensures) in
    record { words = whole all c.loop-rule.rule-index c.loop-rule.words.items c.args.unread (omega arith) c.loop-rule.invariant }
