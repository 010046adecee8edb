use Rattle.wit_places.specs.Spans.{touch_spans}
use Rattle.wit_places.proofs.TouchLemmas.{spans_more, spans_end}
use Rattle.wit_places.proofs.spans.touch_spans.Goals as goal

pub loop-found-preserved : goal.loop-found-preserved
loop-found-preserved c =
    spans_more c.args.loaded c.args.tree.now (touch_spans c.args.loaded c.args.tree.now c.args.forest.now) c.loop-found.spans.items
    c.put_spans.new.spans.items c.args.forest.now c.loop-found.found-index c.found-item.result c.loop-found-test.true c.found-item.is
    c.loop-found.invariant c.in_ok-put_spans.ensures

pub returns : goal.returns
returns c = record {
  spans = spans_end c.args.loaded c.args.tree.now (touch_spans c.args.loaded c.args.tree.now c.args.forest.now) c.loop-found.spans.items
      c.args.forest.now c.loop-found.found-index c.loop-found-test.false c.loop-found.invariant;
}
