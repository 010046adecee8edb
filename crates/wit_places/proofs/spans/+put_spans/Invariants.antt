use Rattle.std.proofs.Common.{◌≡◌, ◌++◌, drop}
use Rattle.wit_places.specs.Spans.{touch_spans}
use Rattle.wit_places.proofs.TouchLemmas.{spans_in}
use Rattle.wit_places.proofs.spans.+put_spans.Given as goal

abbrev pub invariant-loop-below : goal.invariant-loop-below
invariant-loop-below l =
    l.spans.items ++ touch_spans l.loaded l.tree (drop l.below-index l.below-items) ≡ l.initial.spans.items ++ spans_in l.loaded l.tree l.found
