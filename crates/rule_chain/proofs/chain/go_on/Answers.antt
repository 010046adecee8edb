use Rattle.std.proofs.Common.{◌<◌, ◌≤◌, ap, sym, arith, length}
use Rattle.rule_chain.specs.RuleEdits.Pages.{Page}
use Rattle.rule_chain.proofs.StepLemmas.{read_on}
use Rattle.rule_chain.proofs.chain.go_on.Goals as goal

pub returns-then-done-count-clause-comes : goal.returns-then-done-count-clause-comes
returns-then-done-count-clause-comes c = λ s left.
    let all : length c.args.rules.now.patch.now.rules ≤ c.args.edited.done = omega (arith, c.count.ensures.count) in
    (all, c.in_ok-answer.ensures c.args.rules.now.unread s left.findings_are (sym (ap (λ (p : Page). p.bytes) left.page)) left.skipped_is)

pub returns-clause-comes : goal.returns-clause-comes
returns-clause-comes c = λ s left.
    let lt : c.args.edited.done < length c.args.rules.now.patch.now.rules = omega (arith, c.count.ensures.count) in
    read_on c.args.rules.now.unread c.args.edited.findings c.args.edited.text c.args.reading c.args.loaded c.args.skipped c.in_ok-file.file s left
    c.in_ok-file.ensures.cut c.in_ok-file.ensures.reads (c.in_ok-file.ensures.shown c.in_ok-file.ensures.reads)
    c.args.rules.now.patch.now.rules c.args.edited.done c.in_ok-skipped.skipped lt c.in_ok-skipped.ensures
