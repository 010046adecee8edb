use Rattle.std.proofs.Common.{◌∙◌, arith, get_or}
use Rattle.edit_bodies.proofs.LayoutLemmas.{depth_more}
use Rattle.edit_bodies.proofs.lay.deepest.Goals as goal

pub loop-statement-preserved : goal.loop-statement-preserved
loop-statement-preserved c = record {
  long = c.put_depth.ensures.len ∙ c.loop-statement.invariant.long;
  each = λ n less.
      depth_more c.args.statements.now c.loop-statement.statement-index c.statement-item.result n (get_or c.loop-statement.depths.items n 0)
      (get_or c.put_depth.new.depths.items n 0) c.loop-statement-test.true c.statement-item.is
      (c.in_ok-put_depth.ensures.depths n (omega (arith, less, c.loop-statement.invariant.long))) (c.loop-statement.invariant.each n less);
}
