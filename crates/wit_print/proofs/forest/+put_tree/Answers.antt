use Rattle.std.proofs.Common.{◌≡◌, sym, ap, ◌∙◌, ◌++◌, []}
use Rattle.wit_print.proofs.Lines.{bind_whole}
use Rattle.wit_print.proofs.forest.+put_tree.Goals as goal

pub returns-after-loop-below-clause-lines : goal.returns-after-loop-below-clause-lines
returns-after-loop-below-clause-lines t c =
    bind_whole c.args.report.now c.put.new.self c.put_bind.new.report c.loop-below.report c.in-Bind.node c.in-Bind.x c.in-Bind.value
    c.in-Bind.under c.as_slice-below-items.result.now c.args.blanks.now.items c.push.new.self.items c.loop-below.below-index c.args.tree.now
    c.in-Bind.is (c.in_ok-put.ensures ∙ ap (λ b. c.args.report.now ++ b) c.deref.ensures.value) c.in_ok-put_bind-in-Bind.ensures
    c.as_slice-below-items.ensures c.in_ok-push-in-Bind.ensures.items c.loop-below-test.false c.loop-below.invariant.lines
