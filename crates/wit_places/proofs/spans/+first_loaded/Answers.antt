use Rattle.wit_places.specs.Spans.{loaded_ids}
use Rattle.wit_places.proofs.RowLemmas.{first_found, first_later}
use Rattle.wit_places.proofs.spans.+first_loaded.Goals as goal

pub returns-in-Some : goal.returns-in-Some
returns-in-Some t c =
    first_found c.args.loaded c.as_slice-child-items.result.now c.loop-child.child-index c.child-item.result c.loop-child-test.true
    c.child-item.is (loaded_ids c.args.loaded c.args.tree.now) c.loop-child.invariant c.in-Some.id c.in-Some.ensures

pub loop-child-preserved : goal.loop-child-preserved
loop-child-preserved t c =
    first_later c.args.loaded c.as_slice-child-items.result.now c.loop-child.child-index c.child-item.result c.loop-child-test.true
    c.child-item.is (loaded_ids c.args.loaded c.args.tree.now) c.loop-child.invariant c.in_default.ensures
