use Rattle.env_sets.proofs.RunLemmas.{have_first, have_rest}
use Rattle.env_sets.proofs.runs.Runs.have.Goals as goal

pub returns-then-has_in_order : goal.returns-then-has_in_order
returns-then-has_in_order c =
    have_first c.has_in_order.result c.as_slice.result.now c.args.self.now.first c.args.self.now.rest c.args.v.now
    c.has_in_order.ensures c.as_slice.ensures.items c.if-has_in_order.true

pub returns-else-has_in_order : goal.returns-else-has_in_order
returns-else-has_in_order c =
    have_rest c.has_in_order.result c.some_has.result c.as_slice.result.now c.args.self.now.first
    c.as_slice-else-has_in_order.result.now c.args.self.now.rest c.args.v.now
    c.has_in_order.ensures c.as_slice.ensures.items c.if-has_in_order.false c.some_has.ensures c.as_slice-else-has_in_order.ensures.items
