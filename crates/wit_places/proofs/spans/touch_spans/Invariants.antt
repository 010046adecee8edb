use Rattle.std.proofs.Common.{◌≡◌, ◌++◌, drop}
use Rattle.wit_places.specs.Spans.{touch_spans}
use Rattle.wit_places.proofs.spans.touch_spans.Given as goal

abbrev pub invariant-loop-found : goal.invariant-loop-found
invariant-loop-found l = l.spans.items ++ touch_spans l.loaded l.tree (drop l.found-index l.forest) ≡ touch_spans l.loaded l.tree l.forest
