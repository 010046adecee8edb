use Rattle.std.proofs.Common.{◌≡◌, drop}
use Rattle.wit_places.specs.Spans.{loaded_ids}
use Rattle.wit_places.proofs.RowLemmas.{row_ids}
use Rattle.wit_places.proofs.spans.+first_loaded.Given as goal

abbrev pub invariant-loop-child : goal.invariant-loop-child
invariant-loop-child l = row_ids l.loaded (drop l.child-index l.child-items) ≡ loaded_ids l.loaded l.tree
