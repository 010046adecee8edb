use Rattle.std.proofs.Common.{◌≡◌, sym, ap, ◌∙◌, arith}
use Rattle.wit_print.proofs.Sets.{group_put, group_none}
use Rattle.wit_print.proofs.rules.put_own.Goals as goal

pub returns-in_ok-push : goal.returns-in_ok-push
returns-in_ok-push c count before are =
    group_put count before c.args.groups.now.items c.args.w c.index_mut.result.now c.push.new.self
    (omega (arith, c.if-n-len.true, c.len.ensures)) (grind (arith, c.index_mut.ensures.value)) c.in_ok-push.ensures.items are
