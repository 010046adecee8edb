use Rattle.std.proofs.Common.{◌≡◌, sym, ap, ◌∙◌, take, arith}
use Rattle.wit_print.specs.Groups.{shown_groups}
use Rattle.wit_print.proofs.Sets.{group_next}
use Rattle.wit_print.proofs.rules.by_rule.Goals as goal

pub loop-w-preserved : goal.loop-w-preserved
loop-w-preserved c =
    group_next c.args.count c.loop-w.w-index c.args.witnesses.now c.w-item.result (shown_groups c.put_own.new.groups.items)
    c.loop-w-test.true (grind (arith, c.w-item.is, c.loop-w-test.true))
    (c.in_ok-put_own.ensures c.args.count (take c.loop-w.w-index c.args.witnesses.now) c.loop-w.invariant)
