use Rattle.std.proofs.Common.{◌++◌}
use Rattle.wit_places.proofs.TouchLemmas.{spans_in, touch_whole, bind_whole, spans_more, spans_end}
use Rattle.wit_places.proofs.spans.+put_spans.Goals as goal

pub returns-in_ok-push-in-Touch : goal.returns-in_ok-push-in-Touch
returns-in_ok-push-in-Touch t c =
    touch_whole c.args.loaded c.args.tree.now c.args.spans.now.items c.push.new.self.items c.span_at.result c.args.found.now
    c.in-Touch.field-0 c.in-Touch.field-1 c.in-Touch.path c.steps.result.now c.in-Touch.is c.steps.ensures.steps c.span_at.ensures
    c.in_ok-push-in-Touch.ensures.items

pub loop-below-init : goal.loop-below-init
loop-below-init t c =
    bind_whole c.args.loaded c.args.tree.now c.args.spans.now.items c.args.found.now c.in-Bind.field-0 c.in-Bind.field-1 c.in-Bind.field-2
    c.in-Bind.under c.as_slice-below-items.result.now c.in-Bind.is c.as_slice-below-items.ensures

pub loop-below-preserved : goal.loop-below-preserved
loop-below-preserved t c =
    spans_more c.args.loaded c.args.tree.now (c.args.spans.now.items ++ spans_in c.args.loaded c.args.tree.now c.args.found.now)
    c.loop-below.spans.items c.put_spans.new.spans.items c.as_slice-below-items.result.now c.loop-below.below-index c.below-item.result
    c.loop-below-test.true c.below-item.is c.loop-below.invariant c.in_ok-put_spans-in-Bind.ensures

pub returns-after-loop-below : goal.returns-after-loop-below
returns-after-loop-below t c =
    spans_end c.args.loaded c.args.tree.now (c.args.spans.now.items ++ spans_in c.args.loaded c.args.tree.now c.args.found.now)
    c.loop-below.spans.items c.as_slice-below-items.result.now c.loop-below.below-index c.loop-below-test.false c.loop-below.invariant
