use Rattle.c_terms.proofs.PlaceLemmas.{leaf-found, leaf-none}
use Rattle.c_terms.proofs.place.+first_leaf.Goals as goal

pub returns-in-Some : goal.returns-in-Some
returns-in-Some t c = record {
  value = leaf-found c.as_slice-child-items.result.now c.loop-child.child-index c.child-item.result
      c.in-Some.token.now _ c.loop-child-test.true c.child-item.is c.loop-child.invariant c.in-Some.ensures.value;
}

pub loop-child-preserved : goal.loop-child-preserved
loop-child-preserved t c = leaf-none c.as_slice-child-items.result.now c.loop-child.child-index c.child-item.result _
    c.loop-child-test.true c.child-item.is c.loop-child.invariant c.in_default.ensures.value
